-- A board that goes through the first moment: main, and then what comes.
use Rattle.std.proofs.Common.{◌≡◌, ℕ, suc, ◌+◌, ◌-◌, ◌<◌, ◌≤◌, ◌⊎◌, inl, inr, Bool, true, false, List, [], ◌∷◌, ◌++◌, length, Option, Some, None, IsSome, is_some, refl, sym, ap, ◌∙◌, subst, arith, append_assoc, length-append}
use Rattle.std.proofs.lemmas.List.{append-nil}
use Rattle.std.specs.Option.{option_map}
use Rattle.thumb_code.specs.Machine.{State as Machine}
use Rattle.board_world.specs.declared.events.Event.{Event}
use Rattle.board_world.specs.Observations.{ByteList, Observation}
use Rattle.board_world.specs.Transcript.{line}
use Rattle.board_world.specs.Board.{Board as WorldBoard, over, next_entry}
use Rattle.board_world.specs.Activities.{World}
use Rattle.board_world.specs.Before.{IsRisingFrom, idled_before}
use Rattle.class_world.proofs.Laws.{rests, none_before_first, IsStanding}
use Rattle.bank_model.specs.Fibers.{Fiber, Shared}
use Rattle.bank_model.specs.BoardMachine.{fibers, bank_start}
use Rattle.event_script.specs.World.{world_entries}
use Rattle.event_script.specs.declared.script.Script.{Script}
use Rattle.fiber_runtime.specs.declared.turning.Turning.{Turning}
use Rattle.tool_io.specs.Putting.{Took}
use Rattle.tool_io.proofs.Laws.{took-then}
use Rattle.board_outside.specs.Moves.{Move, Seen, seen_of}
use Rattle.board_outside.specs.Cuts.{TookInto}
use Rattle.board_outside.proofs.Laws.{seen_of-append}
use Rattle.board_run.specs.declared.end.Stop.{Stop}
use Rattle.board_run.specs.declared.engine.Engine.{Engine}
use Rattle.board_run.specs.declared.board.Board.{Board}
use Rattle.board_run.specs.Shown.{running_of}
use Rattle.board_run.specs.Represents.{BoardState, Represents, IsShown, behind, IsEmpty, entries_left, state_of, end_of}
use Rattle.board_run.specs.Run.{Comes}
use Rattle.board_run.specs.Outside.{OverSink, PortsMeet}
use Rattle.board_run.specs.Advancing.{IsWhole, led_lines, Fails, first_sent, IsBusy, HasProceeded, IsStayed, of_moment}
use Rattle.board_run.specs.Going.{IsDueAt, IsResting, Shows, LeadsTo, Sees, MayGo, HasGone, IsIdle, GoesOnOrIdle, IsPassed, IsCutShort}
use Rattle.board_run.specs.Ran.{IsMounted}
use Rattle.board_run.proofs.Executing.{ports_then, into_then, led_lines-append}
use Rattle.board_run.proofs.FiberGoesOn.{first_ready}
use Rattle.board_run.proofs.Stepping.{some_turning}
use Rattle.board_run.proofs.Raises.{nobody_ready}
use Rattle.board_run.proofs.Course.{busy_to, shown_reaches}
use Rattle.board_run.proofs.Further.{Makes, MakesTo, through_then, through_none}
use Rattle.board_run.proofs.Proceeding.{first_sent-append}
use Rattle.board_run.proofs.AtMoment.{Known, known_through}
use Rattle.board_run.proofs.Through.{rising_left, first_any}
use Rattle.board_run.proofs.FirstMoment.{leads_early, leads_idle, leads_on, first_sees, sees_on, shows_mid, worlds}
use Rattle.board_ports.specs.Account.{Account}

-- on a board on which nobody was left to go on, nobody begins
pub none_begins : (old new : Engine) → IsShown (state_of old) → IsResting old → ((image : List ℕ) → Comes image 0 [] (state_of old) (state_of new)) → IsSome new.runtime.running → ⊥
none_begins old new shown r comes runs =
    let image = old.runtime.machine.memory.flash in
    let w = shown.world in
    let h = shown.shows in
    let x = comes image (Some 0) _ 0 [] [] (shown_reaches (Some 0) image (state_of old) w h) in
    let v = x.1.at [] in
    let start : World Fiber Shared = record w { board = record w.board { seen = []; unplugged = [] }; shared = record w.shared { free = ([] ++ x.0) ++ [] } } in
    let nobody : w.ready ≡ [] = nobody_ready image (state_of old) w h r.empty.running r.empty.raisers r.empty.spent r.empty.ready in
    let still : idled_before (fibers image) 0 start ≡ start = rests (fibers image) 0 start nobody (none_before_first start.board.queue start (h.hears.queue ∙ r.quiet)) in
    let t = some_turning new.runtime.running runs in
    let first = first_ready image (state_of new) v (x.1.shows []) t.0 t.1 in
    let same : v ≡ start = sym (busy_to image (Some 0) v _ _ first) ∙ x.1.settles [] ∙ still in
    let none : length v.ready ≡ 0 = ap (λ (u : World Fiber Shared). length u.ready) same ∙ ap length nobody in
    let some : length v.ready ≡ suc _ = ap length first in
    absurd (omega (arith, none, some))

length_running : (o : Option Turning) (m : Machine) (a b : Bool) → length (running_of o m a) ≡ length (running_of o m b)
length_running None m a b = refl
length_running (Some t) m a b = refl

-- as mounted, main is ready
pub mounted_busy : (image0 : List ℕ) (script : Script) (e : Engine) → IsMounted image0 script e → (image : List ℕ) (w : World Fiber Shared) → Represents image (state_of e) w → IsBusy w
mounted_busy image0 script e m image w h =
    let g = m.begins [] in
    let same : image0 ≡ image = sym g.flash ∙ h.flash in
    let b = state_of e in
    let one : 1 ≡ length (running_of e.runtime.running e.runtime.machine g.mark ++ behind image0 b) = ap length g.ready in
    let parts : length (running_of e.runtime.running e.runtime.machine g.mark ++ behind image0 b) ≡ length (running_of e.runtime.running e.runtime.machine g.mark) + length (behind image0 b) = length-append (running_of e.runtime.running e.runtime.machine g.mark) (behind image0 b) in
    let all : length w.ready ≡ length (running_of e.runtime.running e.runtime.machine h.mark ++ behind image b) = ap length h.ready in
    let parts' : length (running_of e.runtime.running e.runtime.machine h.mark ++ behind image b) ≡ length (running_of e.runtime.running e.runtime.machine h.mark) + length (behind image b) = length-append (running_of e.runtime.running e.runtime.machine h.mark) (behind image b) in
    let runner = length_running e.runtime.running e.runtime.machine g.mark h.mark in
    let others : length (behind image0 b) ≡ length (behind image b) = ap (λ i. length (behind i b)) same in
    (ap (λ (p : WorldBoard). is_some p.end) h.board ∙ sym (ap (λ (p : WorldBoard). is_some p.end) g.board), omega (arith, one, parts, all, parts', runner, others))

-- and it stands at 0
mounted_stands : (image0 : List ℕ) (script : Script) (free : List ℕ) → IsStanding 0 script.end (world_entries script.entries) (bank_start image0 script.end (world_entries script.entries) free)
mounted_stands image0 script free = record { clock_is = refl; until_is = refl; script_is = refl; goes = refl; later = tt }

module _ {B : Type 0} (account : B → Account) (lead : ByteList) (old : OverSink B) (there : Board B) (image0 : List ℕ) (script : Script) (mounted : IsMounted image0 script old.board.engine)
    (begun : (image : List ℕ) → Comes image 0 [] (state_of old.board.engine) (state_of there.engine)) (plugs : there.plugs ≡ old.board.plugs) (kept : there.kept ≡ old.board.kept) (sent : there.sent ≡ old.board.sent)
    (count : there.instructions ≡ old.board.instructions) (clock : there.engine.clock ≡ old.board.engine.clock) (same_script : there.engine.script ≡ old.board.engine.script) where
  makes_on : (image : List ℕ) (n : ℕ) (more : List Move) (new : BoardState) → Makes image n more (state_of there.engine) new → Makes image n more (state_of old.board.engine) new
  makes_on image n more new q bound =
      (let count : n + 0 ≡ n = omega arith in
      subst (λ k. MakesTo bound image k more (state_of old.board.engine) new) count
      (through_then IsBusy bound image 0 n [] more (state_of old.board.engine) (state_of there.engine) new (through_none IsBusy bound image [] (state_of old.board.engine) (state_of there.engine) (begun image bound)) (q bound)))

  rising : IsRisingFrom 0 (entries_left old.board.engine)
  rising = rising_left 0 old.board.engine mounted.whole.script (first_any (next_entry (entries_left old.board.engine)))

  busy : (image : List ℕ) (w : World Fiber Shared) → Represents image (state_of old.board.engine) w → IsBusy w
  busy = mounted_busy image0 script old.board.engine mounted

  at_first : old.board.engine.clock ≡ 0
  at_first = sym (ap (λ (p : WorldBoard). p.clock) (mounted.begins []).board)

  module _ (most n : ℕ) (mid : OverSink B) (q : HasProceeded account lead n most (record old { board = there }) mid) (stayed : IsStayed mid.board.engine) (whole : IsWhole mid.board.engine mid.board.instructions) where
    makes : (image : List ℕ) → MakesTo (Some 0) image n q.proceeds.advances.moves (state_of old.board.engine) (state_of mid.board.engine)
    makes image = makes_on image n q.proceeds.advances.moves (state_of mid.board.engine) (λ bound. q.proceeds.advances.comes image bound tt) (Some 0)

    known : Known 0 (world_entries script.entries) mid.board.engine
    known = known_through image0 0 script.end (world_entries script.entries) n q.proceeds.advances.moves old.board.engine mid.board.engine (bank_start image0 script.end (world_entries script.entries) []) (mounted.begins []) (mounted_stands image0 script [])
        (makes image0) stayed

    same_kept : mid.board.kept ≡ old.board.kept
    same_kept = q.stands.kept ∙ kept

    settled_shown : IsSome mid.board.engine.end ⊎ IsSome mid.board.engine.runtime.running → (image : List ℕ) (w : World Fiber Shared) → Represents image (state_of mid.board.engine) w → over w.board ≡ false → 0 < length w.ready
    settled_shown (inl e) image w h o = absurd (by_end mid.board.engine.end e (sym o ∙ ap (λ (p : WorldBoard). is_some p.end) h.board))
      where
        by_end : (x : Option Stop) → IsSome x → false ≡ is_some (option_map end_of x) → ⊥
        by_end None e' k = (let c : false ≡ true = e' in cc)
        by_end (Some y) e' k = cc
    settled_shown (inr runs) image w h o =
        (let u = some_turning mid.board.engine.runtime.running runs in
        let there' : length w.ready ≡ suc _ = ap length (first_ready image (state_of mid.board.engine) w h u.0 u.1) in
        omega (arith, there'))

    -- nothing comes at once
    pub first_gone : GoesOnOrIdle 0 mid.board → HasGone account lead old.board.sent 0 n old mid []
    first_gone g = record {
      moves = q.proceeds.advances.moves;
      goes = λ image at met shows. subst (λ l. LeadsTo image 0 n old.board.kept l (met ++ q.proceeds.advances.moves) at (state_of mid.board.engine)) (sym same_kept) (by_case g image at met shows);
      ports = subst (λ p. PortsMeet account q.proceeds.advances.moves p mid.board.plugs) plugs q.proceeds.advances.ports;
      sent = q.proceeds.sent ∙ ap (λ ns. first_sent ns (seen_of q.proceeds.advances.moves)) sent;
      written = subst (λ l. Took old.taken mid.taken l) (sym (append-nil (led_lines lead (seen_of q.proceeds.advances.moves)))) q.proceeds.advances.written;
      counted = q.counted ∙ ap (λ k. k + n) count;
      whole = whole;
      clock = q.stands.clock ∙ clock ∙ at_first;
      script = q.stands.script ∙ same_script;
    }
      where
        by_case : GoesOnOrIdle 0 mid.board → (image : List ℕ) (at : List ℕ → World Fiber Shared) (met : List Move) → Shows image (state_of old.board.engine) at met → LeadsTo image 0 n old.board.kept old.board.kept (met ++ q.proceeds.advances.moves) at (state_of mid.board.engine)
        by_case (inl x) image at met shows = leads_early image old.board.kept old.board.engine mid.board.engine n q.proceeds.advances.moves (busy image) rising at met shows (makes image) stayed (settled_shown x image)
        by_case (inr x) image at met shows = leads_idle image old.board.kept old.board.engine mid.board.engine n q.proceeds.advances.moves (busy image) rising at met shows (makes image) stayed x.resting x.later (sym same_kept ∙ x.none)

    pub first_passed : GoesOnOrIdle 0 mid.board → IsPassed 0 n most mid.board
    first_passed g = record { within = q.within; sound = known.sound; rests = λ e. by_case e g }
      where
        by_done : mid.board.engine.end ≡ None → IsSome mid.board.engine.runtime.running → (n ≡ most) ⊎ (mid.board.engine.runtime.running ≡ None ⊎ IsSome mid.board.engine.end) → n ≡ most
        by_done e runs (inl d) = d
        by_done e runs (inr (inl d)) = absurd (let c : false ≡ true = subst IsSome d runs in cc)
        by_done e runs (inr (inr d)) = absurd (let c : false ≡ true = subst IsSome e d in cc)

        by_case : mid.board.engine.end ≡ None → GoesOnOrIdle 0 mid.board → (IsSome mid.board.engine.runtime.running × (n ≡ most)) ⊎ IsIdle 0 mid.board
        by_case e (inl (inl x)) = absurd (let c : false ≡ true = subst IsSome e x in cc)
        by_case e (inl (inr x)) = inl (x, by_done e x q.done)
        by_case e (inr x) = inr x

    -- the moment's events come behind main
    pub then_gone : (k : ℕ) (new : OverSink B) → IsResting mid.board.engine → HasGone account lead mid.board.sent 0 k mid new [] → HasGone account lead old.board.sent 0 (k + n) old new []
    then_gone k new r g = record {
      moves = q.proceeds.advances.moves ++ g.moves;
      goes = λ image at met shows.
          let m = shows_mid image old.board.kept old.board.engine mid.board.engine n q.proceeds.advances.moves (busy image) rising at met shows (makes image) stayed in
          let l = g.goes image (worlds image old.board.kept old.board.engine mid.board.engine n q.proceeds.advances.moves (busy image) rising at met shows (makes image) stayed) (met ++ q.proceeds.advances.moves) m in
          let l' = subst (λ es. LeadsTo image 0 k es new.board.kept ((met ++ q.proceeds.advances.moves) ++ g.moves) (worlds image old.board.kept old.board.engine mid.board.engine n q.proceeds.advances.moves (busy image) rising at met shows (makes image) stayed) (state_of new.board.engine)) same_kept l in
          subst (λ ms. LeadsTo image 0 (k + n) old.board.kept new.board.kept ms at (state_of new.board.engine)) (append_assoc met q.proceeds.advances.moves g.moves)
          (leads_on image old.board.kept old.board.engine mid.board.engine n q.proceeds.advances.moves (busy image) rising at met shows (makes image) stayed r k new.board.kept ((met ++ q.proceeds.advances.moves) ++ g.moves) (state_of new.board.engine) l');
      ports = ports_then account q.proceeds.advances.moves g.moves old.board.plugs mid.board.plugs new.board.plugs (subst (λ p. PortsMeet account q.proceeds.advances.moves p mid.board.plugs) plugs q.proceeds.advances.ports) g.ports;
      sent = g.sent ∙ ap (λ ns. first_sent ns (seen_of g.moves)) (q.proceeds.sent ∙ ap (λ ns. first_sent ns (seen_of q.proceeds.advances.moves)) sent)
          ∙ sym (first_sent-append old.board.sent (seen_of q.proceeds.advances.moves) (seen_of g.moves)) ∙ ap (first_sent old.board.sent) (sym (seen_of-append q.proceeds.advances.moves g.moves));
      written = subst (λ l. Took old.taken new.taken l) (by_lines (seen_of q.proceeds.advances.moves) (seen_of g.moves) ∙ ap (λ os. led_lines lead os ++ []) (sym (seen_of-append q.proceeds.advances.moves g.moves))) (took-then _ _ q.proceeds.advances.written g.written);
      counted = (let a = q.counted in let b = g.counted in omega (arith, a, b, count));
      whole = g.whole;
      clock = g.clock;
      script = g.script ∙ q.stands.script ∙ same_script;
    }
      where
        by_lines : (xs ys : List Observation) → led_lines lead xs ++ (led_lines lead ys ++ []) ≡ led_lines lead (xs ++ ys) ++ []
        by_lines xs ys = sym (append_assoc (led_lines lead xs) (led_lines lead ys) []) ∙ ap (λ l. l ++ []) (sym (led_lines-append lead xs ys))

    pub then_passed : (k : ℕ) (new : Board B) → IsPassed 0 k (most - n) new → IsPassed 0 (k + n) most new
    then_passed k new p = record {
      within = (let a = q.within in let b = p.within in omega (arith, a, b));
      sound = p.sound;
      rests = λ e. by_rest (p.rests e);
    }
      where
        by_rest : (IsSome new.engine.runtime.running × (k ≡ most - n)) ⊎ IsIdle 0 new → (IsSome new.engine.runtime.running × (k + n ≡ most)) ⊎ IsIdle 0 new
        by_rest (inl x) = inl (x.0, (let a = q.within in let b : k ≡ most - n = x.1 in omega (arith, a, b)))
        by_rest (inr x) = inr x

    pub then_cut : (new : OverSink B) → IsResting mid.board.engine → IsCutShort account lead 0 (most - n) mid new → IsCutShort account lead 0 most old new
    then_cut new r g = record {
      used = g.used + n;
      within = (let a = q.within in let b = g.within in omega (arith, a, b));
      done = q.proceeds.advances.moves ++ g.done;
      last = g.last;
      sees = λ image at met shows.
          let m = shows_mid image old.board.kept old.board.engine mid.board.engine n q.proceeds.advances.moves (busy image) rising at met shows (makes image) stayed in
          let ws = worlds image old.board.kept old.board.engine mid.board.engine n q.proceeds.advances.moves (busy image) rising at met shows (makes image) stayed in
          let l = subst (λ es. Sees image 0 g.used es (seen_of g.done ++ g.last ∷ []) ws) same_kept (g.sees image ws (met ++ q.proceeds.advances.moves) m) in
          subst (λ os. Sees image 0 (g.used + n) old.board.kept os at) (sym (append_assoc (seen_of q.proceeds.advances.moves) (seen_of g.done) (g.last ∷ [])) ∙ ap (λ os. os ++ g.last ∷ []) (sym (seen_of-append q.proceeds.advances.moves g.done)))
          (sees_on image old.board.kept old.board.engine mid.board.engine n q.proceeds.advances.moves (busy image) rising at met shows (makes image) stayed r g.used (seen_of g.done ++ g.last ∷ []) l);
      ports = ports_then account q.proceeds.advances.moves g.done old.board.plugs mid.board.plugs new.board.plugs (subst (λ p. PortsMeet account q.proceeds.advances.moves p mid.board.plugs) plugs q.proceeds.advances.ports) g.ports;
      written = subst (λ l. TookInto old.taken new.taken l (lead ++ line g.last)) (sym (led_lines-append lead (seen_of q.proceeds.advances.moves) (seen_of g.done)) ∙ ap (led_lines lead) (sym (seen_of-append q.proceeds.advances.moves g.done)))
          (into_then account (led_lines lead (seen_of q.proceeds.advances.moves)) (led_lines lead (seen_of g.done)) (lead ++ line g.last) q.proceeds.advances.written g.written);
    }

  -- the sink failed before main was left
  pub first_cut : (most : ℕ) (new : OverSink B) → Fails account (of_moment lead) most (record old { board = there }) new → IsCutShort account lead 0 most old new
  first_cut most new g = record {
    used = g.count;
    within = g.within;
    done = g.done;
    last = g.last;
    sees = λ image at met shows. subst (λ os. Sees image 0 g.count old.board.kept os at) (seen_of-append g.done (Seen g.last ∷ []))
        (first_sees image old.board.kept old.board.engine old.board.engine g.count (g.done ++ Seen g.last ∷ []) (busy image) rising at met shows g.at (makes_on image g.count (g.done ++ Seen g.last ∷ []) g.at (λ bound. g.comes image bound tt) (Some 0)));
    ports = subst (λ p. PortsMeet account g.done p new.board.plugs) plugs g.ports;
    written = g.written;
  }

-- which call it is
pub may_rest : (moment budget : ℕ) (kept : List Event) (e : Engine) → MayGo moment budget kept e → IsEmpty (state_of e) → IsResting e × IsDueAt moment kept e
may_rest moment budget kept e (inr r) empty = r
may_rest moment budget kept e (inl m) empty =
    let mounted = m.2 in
    let w : World Fiber Shared = bank_start m.0 m.1.end (world_entries m.1.entries) [] in
    let g : Represents m.0 (state_of e) w = mounted.begins [] in
    let busy : IsBusy w = mounted_busy m.0 m.1 e mounted m.0 w g in
    let nobody : w.ready ≡ [] = nobody_ready m.0 (state_of e) w g empty.running empty.raisers empty.spent empty.ready in
    let long : 0 < length w.ready = busy.1 in
    let short : length w.ready ≡ 0 = ap length nobody in
    absurd (omega (arith, long, short))

pub may_begin : (moment budget : ℕ) (kept : List Event) (e new : Engine) → MayGo moment budget kept e → IsShown (state_of e) → ((image : List ℕ) → Comes image 0 [] (state_of e) (state_of new)) → IsSome new.runtime.running
    → (image : List ℕ) × (script : Script) × IsMounted image script e × (moment ≡ 0) × (1 ≤ budget)
may_begin moment budget kept e new (inl m) shown comes runs = m
may_begin moment budget kept e new (inr r) shown comes runs = absurd (none_begins e new shown r.0 comes runs)
