-- A board's turn at a moment, and the turns of all.
use Rattle.std.proofs.Common.{◌≡◌, ◌≤◌, ◌<◌, inl, inr, ℕ, suc, ◌+◌, Bool, true, false, not, ◌&&◌, if◌then◌else◌, ◌==◌, nat_lt, List, [], ◌∷◌, ◌++◌, length, map, take, get_or, Option, Some, None, is_some, refl, ap, sym, ◌∙◌, subst, arith, append-nil, append_assoc, length-append}
use Rattle.std.proofs.Math.ListN.{set}
use Rattle.std.specs.Prelude.{IfSome}
use Rattle.std.specs.Option.{option_map}
use Rattle.std.proofs.lemmas.Bool.Decides.{nat_tests}
use Rattle.sts_base.specs.Faults.{Rose}
use Rattle.board_world.specs.Observations.{ByteList, Observation}
use Rattle.board_world.specs.Transcript.{closing_line}
use Rattle.board_world.specs.Before.{IsRisingFrom, is_by_clock}
use Rattle.event_script.specs.World.{world_entries}
use Rattle.tool_io.specs.Putting.{Took, TookPart}
use Rattle.tool_io.proofs.Laws.{took-nothing, took-then, rose-before}
use Rattle.class_world.specs.Hearing.{moment_of, before}
use Rattle.class_world.specs.Lines.{numbered, is_stopped, stopped_at, lines_at, moment_lines, lines_before}
use Rattle.class_world.proofs.Laws.{lines_same}
use Rattle.board_run.specs.declared.end.Stop.{Stop}
use Rattle.board_run.specs.Represents.{end_of}
use Rattle.class_radio.specs.declared.player.Player.{Player}
use Rattle.class_radio.specs.Playing.{Setup, outlook, HasPlayed, HasCome}
use Rattle.class_radio.specs.Stepping.{MayGoOn, WentThrough, WasCut, WasBroken}
use Rattle.class_radio.proofs.Seen.{none_sent}
use Rattle.class_radio.specs.declared.run.ClassEnd.{ClassEnd}
use Rattle.class_radio.specs.declared.run.ClassEnd.TheVariants.{Budget, SinkFault}
use Rattle.class_radio.specs.Losses.{lost_by}
use Rattle.class_radio.specs.Stepped.{ClassPlan, IsSoundPlan, Past, setups_in, seens, shown_boards, HaveHeard, IsAtMoment, Passed, EachBoard, AreIn}
use Rattle.class_radio.specs.Stopping.{MayTurn, GoesOn, EndsIn, HasGoneOn, IsEnded}
use Rattle.class_radio.proofs.Seams.{Behind, behind}
use Rattle.class_radio.proofs.Boards.{each_long, each_more, Headed, headed, none_left, plan_at, heard_at_board, heard_same, heard_scripts, setups_split, shown_append, shown_long, moment_more, wrote_at}
use Rattle.class_radio.proofs.Resting.{seen_so_far, clock_early, nothing_at, due_late, plays_longer}

pub before_twice : (t : ℕ) (os : List Observation) → before t (before t os) ≡ before t os
before_twice t [] = refl
before_twice t (o ∷ os) = by_test (nat_lt (moment_of o) t) refl (before_twice t os)
  where
    by_test : (c : Bool) → nat_lt (moment_of o) t ≡ c → before t (before t os) ≡ before t os → before t (if c then o ∷ before t os else before t os) ≡ (if c then o ∷ before t os else before t os)
    by_test true q ih = ap (λ (b : Bool). if b then o ∷ before t (before t os) else before t (before t os)) q ∙ ap (λ (xs : List Observation). o ∷ xs) ih
    by_test false q ih = ih

module _ (budget t number : ℕ) (h : Past) (p : Player) (may : MayTurn budget t number h p) where
  pub may_go_on : p.due ≡ Some t → MayGoOn number budget h.setup h.script t h.used h.seen p
  may_go_on due = record { numbered = may.comes.numbered; some = may.some; come = may.comes.come; due = due; within = may.within; rising = may.rising }

  -- nothing was written of it before the moment that isn't written behind it
  stopped_none : (s b : ℕ) → s < t → (sees : List Observation) (q : Player) → q.board.engine.clock ≡ t → stopped_at s b (outlook sees q).board ≡ []
  stopped_none s b l sees q clock =
      (let other : (q.board.engine.clock == s) ≡ false = grind (arith, nat_tests) in by_stop (is_stopped (outlook sees q).board) (q.board.engine.clock == s) other)
    where
      by_stop : (c d : Bool) → d ≡ false → (if c && d then numbered b (closing_line q.board.engine.clock (option_map end_of q.board.engine.end)) else []) ≡ []
      by_stop true true e = cc
      by_stop true false e = refl
      by_stop false d e = refl

  pub goes_none : (s b : ℕ) → s < t → p.due ≡ Some t → stopped_at s b (outlook h.seen p).board ≡ []
  goes_none s b l due = by_end p.board.engine.end refl
    where
      ended_none : (stop : Stop) → p.board.engine.end ≡ Some stop → HasCome h.setup h.script t h.used h.seen p → ⊥
      ended_none stop e (inl played) = (let none : p.due ≡ None = (played.looks []).ended (ap (λ (o : Option Stop). is_some (option_map end_of o)) e) in cc)
      ended_none stop e (inr fresh) = (let zero_t : t ≡ 0 = fresh.1 in omega (arith, zero_t, l))

      by_end : (o : Option Stop) → p.board.engine.end ≡ o → stopped_at s b (outlook h.seen p).board ≡ []
      by_end None e = ap (λ (o : Option Stop). if (is_some (option_map end_of o) && not (is_by_clock (option_map end_of o))) && (p.board.engine.clock == s) then numbered b (closing_line p.board.engine.clock (option_map end_of o)) else []) e
      by_end (Some stop) e = absurd (ended_none stop e may.comes.come)

  pub went : (q : Player) (taken taken' : Option (List ℕ)) → p.due ≡ Some t → WentThrough number budget h.setup h.script t h.seen q taken taken' → GoesOn budget t number h p q taken taken'
  went q taken taken' due w = record {
    used = w.used;
    sees = w.sees;
    passed = record {
      numbered = w.numbered;
      played = (let next : t + 1 ≡ suc t = omega arith in subst (λ (u : ℕ). HasPlayed h.setup h.script u w.used w.sees q) next w.played_on);
      says = w.says;
    };
    earlier = w.earlier;
    same = record {
      seen = ap (before t) (sym w.earlier) ∙ before_twice t w.sees;
      stopped = λ s b l. goes_none s b l due ∙ sym (stopped_none s b l w.sees q w.clock);
    };
    written = w.written;
  }

  -- nothing comes to it at the moment
  late_due : (o : Option ℕ) → IfSome o (λ m. t ≤ m) → (o ≡ Some t → ⊥) → IfSome o (λ m. suc t ≤ m)
  late_due None l n = tt
  late_due (Some m) l n = by_same (m == t) refl
    where
      by_same : (c : Bool) → (m == t) ≡ c → suc t ≤ m
      by_same true e = absurd (let same : m ≡ t = grind (arith, nat_tests) in n (ap Some same))
      by_same false e = (let k : t ≤ m = l in grind (arith, nat_tests))

  pub stayed : (taken : Option (List ℕ)) → (p.due ≡ Some t → ⊥) → GoesOn budget t number h p p taken taken
  stayed taken none = by_come may.comes.come
    where
      still : HasPlayed h.setup h.script t h.used h.seen p → GoesOn budget t number h p p taken taken
      still played =
          (let late : IfSome p.due (λ m. t ≤ m) = due_late h.setup h.script t h.used h.seen p played in
          let early : p.board.engine.clock < t = clock_early h.setup h.script t h.used h.seen p played in
          let other : (p.board.engine.clock == t) ≡ false = grind (arith, nat_tests) in
          let so_far : before t h.seen ≡ h.seen = seen_so_far h.setup h.script t h.used h.seen p played in
          record {
            used = h.used;
            sees = h.seen;
            passed = record {
              numbered = may.comes.numbered;
              played = plays_longer h.setup h.script t h.used h.seen p played (suc t) (omega arith) (late_due p.due late none);
              says = ap (λ (c : Bool). if c then p.board.sent else []) other ∙ sym (ap (take 32) (none_sent t h.seen so_far));
            };
            earlier = so_far;
            same = record { seen = refl; stopped = λ s b l. refl };
            written = subst (Took taken taken) (sym (nothing_at h.setup h.script t h.used h.seen p played number)) (took-nothing taken);
          })

      by_come : HasCome h.setup h.script t h.used h.seen p → GoesOn budget t number h p p taken taken
      by_come (inl played) = still played
      by_come (inr fresh) = absurd (none (fresh.0.first ∙ ap Some (sym fresh.1)))

-- the boards in a moment, with the players in one list of which the first so many have had their turn
pub record Midway (plan : ClassPlan) (began : Option (List ℕ)) (t n : ℕ) (players : List Player) (taken : Option (List ℕ)) : Type 0 where
  pub gone : List Past
  pub still : List Past
  pub first : List Player
  pub rest : List Player
  pub split : players ≡ first ++ rest
  pub count : length first ≡ n
  pub are : AreIn plan began t gone still first rest taken

pub begins : (plan : ClassPlan) (began : Option (List ℕ)) (t : ℕ) (pasts : List Past) (players : List Player) (taken : Option (List ℕ)) → AreIn plan began t [] pasts [] players taken → Midway plan began t 0 players taken
begins plan began t pasts players taken are = record { gone = []; still = pasts; first = []; rest = players; split = refl; count = refl; are = are }

-- the one whose turn it is
pub record Turn (plan : ClassPlan) (began : Option (List ℕ)) (t n : ℕ) (players : List Player) (p : Player) (taken : Option (List ℕ)) : Type 0 where
  pub gone : List Past
  pub here : Past
  pub still : List Past
  pub first : List Player
  pub rest : List Player
  pub count : length first ≡ n
  pub number : length gone ≡ n
  pub written : (q : Player) → set players n q ≡ first ++ q ∷ rest
  pub are : AreIn plan began t gone (here ∷ still) first (p ∷ rest) taken

pub turn_of : (plan : ClassPlan) (began : Option (List ℕ)) (t n : ℕ) (players : List Player) (p : Player) (taken : Option (List ℕ)) → Midway plan began t n players taken → n < length players → p ≡ get_or players n p
    → Turn plan began t n players p taken
turn_of plan began t n players p taken m within read =
    (let l : length players ≡ length (m.first ++ m.rest) = ap length m.split in
    let b : Behind m.first m.rest n p = behind m.first m.rest n p m.count (omega (arith, l, within)) (read ∙ ap (λ (ps : List Player). get_or ps n p) m.split) in
    let are : AreIn plan began t m.gone m.still m.first (p ∷ b.others) taken = subst (λ (ps : List Player). AreIn plan began t m.gone m.still m.first ps taken) b.is m.are in
    let come : Headed (IsAtMoment plan.budget t) (length m.gone) m.still p b.others = headed (IsAtMoment plan.budget t) (length m.gone) m.still p b.others are.come in
    let long : length m.gone ≡ length m.first = each_long (Passed plan.budget t) 0 m.gone m.first m.are.passed in
    record {
      gone = m.gone;
      here = come.here;
      still = come.others;
      first = m.first;
      rest = b.others;
      count = m.count;
      number = long ∙ m.count;
      written = λ q. ap (λ (ps : List Player). set ps n q) m.split ∙ b.written q;
      are = subst (λ (hs : List Past). AreIn plan began t m.gone hs m.first (p ∷ b.others) taken) come.is are;
    })

module _ (plan : ClassPlan) (sound : IsSoundPlan plan) (began : Option (List ℕ)) (t n : ℕ) (within : t ≤ plan.until) (players : List Player) (p : Player) (taken : Option (List ℕ)) (turn : Turn plan began t n players p taken) where
  abbrev here : Past
  here = turn.here

  pub may_turn : MayTurn plan.budget t n turn.here p
  may_turn = record {
    comes = subst (λ (k : ℕ). IsAtMoment plan.budget t k turn.here p) turn.number turn.are.come.0;
    some = sound.some;
    within = (let e : turn.here.setup.script.end ≡ plan.until = plan_at plan (λ (s : Setup). s.script.end ≡ plan.until) sound.ends turn.gone turn.here turn.still turn.are.setups in omega (arith, e, within));
    rising = heard_at_board (lost_by plan.losses) t plan.until (seens (turn.gone ++ turn.here ∷ turn.still)) 0 turn.gone turn.here turn.still turn.are.heard
        (plan_at plan (λ (s : Setup). IsRisingFrom 0 (world_entries s.script.entries)) sound.rising turn.gone turn.here turn.still turn.are.setups);
  }

  pub ended : (taken' : Option (List ℕ)) (fs faults fs' : ℕ) (end : ClassEnd) → fs ≤ faults → HasGoneOn t turn.here p × EndsIn plan.budget t n turn.here taken taken' faults fs' end → IsEnded plan began taken' fs fs' end
  ended taken' fs faults fs' end later turned = record {
    t = t;
    within = within;
    gone = turn.gone;
    here = turn.here;
    still = turn.still;
    first = turn.first;
    player = p;
    rest = turn.rest;
    between = taken;
    faults = faults;
    later = later;
    are = turn.are;
    on = turned.0;
    ends = subst (λ (k : ℕ). EndsIn plan.budget t k turn.here taken taken' faults fs' end) (sym turn.number) turned.1;
  }

  module _ (q : Player) (taken' : Option (List ℕ)) (g : GoesOn plan.budget t n turn.here p q taken taken') where
    abbrev there : Past
    there = record turn.here { used = g.used; seen = g.sees }

    long : length turn.gone ≡ length turn.first
    long = turn.number ∙ sym turn.count

    more : (turn.gone ++ there ∷ []) ++ turn.still ≡ turn.gone ++ there ∷ turn.still
    more = append_assoc turn.gone (there ∷ []) turn.still

    more_players : (turn.first ++ q ∷ []) ++ turn.rest ≡ turn.first ++ q ∷ turn.rest
    more_players = append_assoc turn.first (q ∷ []) turn.rest

    seen_alike : map (before t) (seens (turn.gone ++ here ∷ turn.still)) ≡ map (before t) (seens (turn.gone ++ there ∷ turn.still))
    seen_alike = by_list turn.gone
      where
        by_list : (gs : List Past) → map (before t) (seens (gs ++ here ∷ turn.still)) ≡ map (before t) (seens (gs ++ there ∷ turn.still))
        by_list [] = ap (λ (os : List Observation). os ∷ map (before t) (seens turn.still)) g.same.seen
        by_list (x ∷ xs) = ap (λ (oss : List (List Observation)). before t x.seen ∷ oss) (by_list xs)

    shown_old : shown_boards (turn.gone ++ here ∷ turn.still) (turn.first ++ p ∷ turn.rest) ≡ shown_boards turn.gone turn.first ++ (outlook here.seen p).board ∷ shown_boards turn.still turn.rest
    shown_old = shown_append turn.gone (here ∷ turn.still) turn.first (p ∷ turn.rest) long

    shown_new : shown_boards (turn.gone ++ there ∷ turn.still) (turn.first ++ q ∷ turn.rest) ≡ shown_boards turn.gone turn.first ++ (outlook g.sees q).board ∷ shown_boards turn.still turn.rest
    shown_new = shown_append turn.gone (there ∷ turn.still) turn.first (q ∷ turn.rest) long

    before_same : lines_before t (shown_boards (turn.gone ++ here ∷ turn.still) (turn.first ++ p ∷ turn.rest)) ≡ lines_before t (shown_boards ((turn.gone ++ there ∷ []) ++ turn.still) ((turn.first ++ q ∷ []) ++ turn.rest))
    before_same =
        ap (lines_before t) shown_old
        ∙ lines_same t t (omega arith) _ _ (wrote_at t (shown_boards turn.gone turn.first) (outlook here.seen p).board (outlook g.sees q).board (shown_boards turn.still turn.rest) g.same)
        ∙ sym (ap (lines_before t) shown_new)
        ∙ sym (ap (λ (hs : List Past). lines_before t (shown_boards hs (turn.first ++ q ∷ turn.rest))) more)
        ∙ sym (ap (λ (ps : List Player). lines_before t (shown_boards ((turn.gone ++ there ∷ []) ++ turn.still) ps)) more_players)

    moment_now : moment_lines t 0 (shown_boards turn.gone turn.first) ++ lines_at t n (outlook g.sees q).board ≡ moment_lines t 0 (shown_boards (turn.gone ++ there ∷ []) (turn.first ++ q ∷ []))
    moment_now =
        (let count : 0 + length (shown_boards turn.gone turn.first) ≡ n = (let l = shown_long turn.gone turn.first in let k = turn.count in omega (arith, l, k)) in
        sym (ap (moment_lines t 0) (shown_append turn.gone (there ∷ []) turn.first (q ∷ []) long)
        ∙ moment_more t 0 (shown_boards turn.gone turn.first) ((outlook g.sees q).board ∷ [])
        ∙ ap (λ (k : ℕ). moment_lines t 0 (shown_boards turn.gone turn.first) ++ (lines_at t k (outlook g.sees q).board ++ [])) count
        ∙ ap (λ (r : ByteList). moment_lines t 0 (shown_boards turn.gone turn.first) ++ r) (append-nil (lines_at t n (outlook g.sees q).board))))

    pub goes_on : Midway plan began t (n + 1) (set players n q) taken'
    goes_on = record {
      gone = turn.gone ++ there ∷ [];
      still = turn.still;
      first = turn.first ++ q ∷ [];
      rest = turn.rest;
      split = turn.written q ∙ sym more_players;
      count = (let l = length-append turn.first (q ∷ []) in let c = turn.count in omega (arith, l, c));
      are = record {
        setups = ap setups_in more ∙ setups_split turn.gone there turn.still ∙ sym (setups_split turn.gone here turn.still) ∙ turn.are.setups;
        heard = subst (λ (hs : List Past). HaveHeard (lost_by plan.losses) t plan.until (seens hs) 0 hs) (sym more)
            (heard_same (lost_by plan.losses) t plan.until (seens (turn.gone ++ here ∷ turn.still)) (seens (turn.gone ++ there ∷ turn.still)) seen_alike 0 (turn.gone ++ there ∷ turn.still)
            (heard_scripts (lost_by plan.losses) t plan.until (seens (turn.gone ++ here ∷ turn.still)) 0 turn.gone here there turn.still refl refl turn.are.heard));
        passed = each_more (Passed plan.budget t) 0 n turn.gone turn.first there q turn.are.passed (let k = turn.number in omega (arith, k)) g.passed;
        come = subst (λ (k : ℕ). EachBoard (IsAtMoment plan.budget t) k turn.still turn.rest) (let l = length-append turn.gone (there ∷ []) in let same : suc (length turn.gone) ≡ length (turn.gone ++ there ∷ []) = omega (arith, l) in same) turn.are.come.1;
        written = subst (Took began taken')
            (append_assoc (lines_before t (shown_boards (turn.gone ++ here ∷ turn.still) (turn.first ++ p ∷ turn.rest))) (moment_lines t 0 (shown_boards turn.gone turn.first)) (lines_at t n (outlook g.sees q).board)
            ∙ ap (λ (r : ByteList). lines_before t (shown_boards (turn.gone ++ here ∷ turn.still) (turn.first ++ p ∷ turn.rest)) ++ r) moment_now
            ∙ ap (λ (r : ByteList). r ++ moment_lines t 0 (shown_boards (turn.gone ++ there ∷ []) (turn.first ++ q ∷ []))) before_same)
            (took-then _ _ turn.are.written g.written);
      };
    }

-- behind the last turn
pub all_gone : (plan : ClassPlan) (began : Option (List ℕ)) (t n : ℕ) (players : List Player) (taken : Option (List ℕ)) → Midway plan began t n players taken → n ≡ length players → (pasts : List Past) × AreIn plan began t pasts [] players [] taken
all_gone plan began t n players taken m last =
    (let l : length players ≡ length (m.first ++ m.rest) = ap length m.split in
    let k = length-append m.first m.rest in
    let c = m.count in
    let none : m.rest ≡ [] = empty m.rest (omega (arith, l, k, c, last)) in
    let are : AreIn plan began t m.gone m.still m.first [] taken = subst (λ (ps : List Player). AreIn plan began t m.gone m.still m.first ps taken) none m.are in
    let is : m.still ≡ [] = none_left (IsAtMoment plan.budget t) (length m.gone) m.still are.come in (
      m.gone,
      subst (λ (ps : List Player). AreIn plan began t m.gone [] ps [] taken) (sym (m.split ∙ ap (λ (ps : List Player). m.first ++ ps) none ∙ append-nil m.first))
          (subst (λ (hs : List Past). AreIn plan began t m.gone hs m.first [] taken) is are),
    ))
  where
    empty : (ps : List Player) → length ps ≡ 0 → ps ≡ []
    empty [] e = refl
    empty (x ∷ xs) e = absurd (omega (arith, e))

-- a board that went has its lead
module _ (budget t number : ℕ) (h : Past) (p : Player) (may : MayTurn budget t number h p) where
  pub has_gone_on : p.due ≡ Some t → HasGoneOn t h p
  has_gone_on due s b l = goes_none budget t number h p may s b l due

  pub spent_so : (taken mid taken' : Option (List ℕ)) (fs fs' : ℕ) → p.due ≡ Some t → WasCut number budget h.setup h.script t h.seen taken mid → Took mid taken' (numbered number (closing_line t None))
      → HasGoneOn t h p × EndsIn budget t number h taken taken' fs fs' (Budget number)
  spent_so taken mid taken' fs fs' due cut closed = (has_gone_on due, (refl, record { between = mid; cut = cut; closed = closed }))

  pub failed_last : (taken mid taken' : Option (List ℕ)) (fs ms fs' : ℕ) → p.due ≡ Some t → WasCut number budget h.setup h.script t h.seen taken mid → TookPart mid taken' (numbered number (closing_line t None))
      → fs ≤ ms → Rose ms fs' → HasGoneOn t h p × EndsIn budget t number h taken taken' fs fs' SinkFault
  failed_last taken mid taken' fs ms fs' due cut part later rose = (has_gone_on due, (inr (record { between = mid; cut = cut; part = part }), rose-before fs ms fs' later rose))

  pub broke : (taken taken' : Option (List ℕ)) (fs fs' : ℕ) → p.due ≡ Some t → WasBroken number budget h.setup h.script t h.seen taken taken' × Rose fs fs' → HasGoneOn t h p × EndsIn budget t number h taken taken' fs fs' SinkFault
  broke taken taken' fs fs' due h' = (has_gone_on due, (inl h'.0, h'.1))

-- there are few boards
pub few_boards : (plan : ClassPlan) → IsSoundPlan plan → (began : Option (List ℕ)) (t : ℕ) (pasts : List Past) (players : List Player) (taken : Option (List ℕ)) → AreIn plan began t [] pasts [] players taken → length players ≤ 8
few_boards plan sound began t pasts players taken are =
    (let one : length pasts ≡ length players = each_long (IsAtMoment plan.budget t) 0 pasts players are.come in
    let two : length (setups_in pasts) ≡ length pasts = map_long pasts in
    let three : length (setups_in pasts) ≡ length plan.setups = ap length are.setups in
    let four : length plan.setups ≤ 8 = sound.few in
    omega (arith, one, two, three, four))
  where
    map_long : (hs : List Past) → length (setups_in hs) ≡ length hs
    map_long [] = refl
    map_long (h ∷ hs) = ap suc (map_long hs)
