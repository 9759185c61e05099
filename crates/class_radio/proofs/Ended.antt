-- A class whose run was ended in a moment by one of its boards.
use Rattle.std.proofs.Common.{◌≡◌, ◌≤◌, ◌<◌, ◌⊎◌, inl, inr, ℕ, suc, ◌+◌, Bool, true, false, ◌&&◌, if◌then◌else◌, ◌==◌, nat_lt, List, [], ◌∷◌, ◌++◌, length, map, Option, None, refl, ap, sym, ◌∙◌, subst, arith, append_assoc}
use Rattle.std.proofs.lemmas.Bool.Decides.{nat_tests}
use Rattle.std.specs.List.{AllByRecursion}
use Rattle.sts_base.specs.Prefix.{IsPrefix}
use Rattle.board_world.specs.Observations.{ByteList, Observation}
use Rattle.board_world.specs.Transcript.{closing_line}
use Rattle.board_world.specs.Board.{Board, over}
use Rattle.board_world.specs.Activities.{World}
use Rattle.board_world.specs.Before.{IsRisingFrom}
use Rattle.board_world.specs.Simulation.{Paired}
use Rattle.board_world.proofs.Laws.{run_settled}
use Rattle.bank_model.specs.Fibers.{Fiber, Shared}
use Rattle.event_script.specs.World.{world_entries}
use Rattle.tool_io.specs.Putting.{Took, TookPart}
use Rattle.tool_io.proofs.Laws.{took-then, part-then, part-more, rose-before}
use Rattle.class_world.specs.Hearing.{moment_of, before}
use Rattle.class_world.specs.Classes.{Class, Played, starting, world_of, world_before, seen_by, Hear, AreInOrder, IsRunUpTo}
use Rattle.class_world.specs.Lines.{numbered, seen_at, is_stopped, stopped_at, lines_at, moment_lines, lines_before, cut_text, WroteSame}
use Rattle.class_world.proofs.Laws.{lines_same}
use Rattle.class_steps.specs.Texts.{Reached, boards_now}
use Rattle.class_steps.proofs.Laws.{is_cut, text_is, begins_text}
use Rattle.class_radio.specs.declared.run.ClassEnd.{ClassEnd}
use Rattle.class_radio.specs.declared.run.ClassEnd.TheVariants.{Done, Budget, SinkFault}
use Rattle.class_radio.specs.declared.player.Player.{Player}
use Rattle.class_radio.specs.Playing.{Setup, run_given, outlook}
use Rattle.class_radio.specs.Stepping.{world_behind, WasCut, WasBroken}
use Rattle.class_radio.specs.Losses.{lost_by}
use Rattle.class_radio.specs.Outcome.{members_of, class_of_parts, HasSpent, IsStopped, RanClass}
use Rattle.class_radio.specs.Stepped.{ClassPlan, IsSoundPlan, Past, setups_in, seens, shown_boards, IsAtMoment, Passed, EachBoard, AreIn}
use Rattle.class_radio.specs.Stopping.{FailedLast, EndsIn, HasGoneOn, IsEnded}
use Rattle.class_radio.proofs.Boards.{each_long, heard_same, heard_scripts, setups_split, shown_append, wrote_at}
use Rattle.class_radio.proofs.Turning.{before_twice}
use Rattle.class_radio.proofs.Runs.{run_of, runs_of, frees_of, Fits, fit_all, fit_left, fit_right, members_are, in_order, hear_all, passed_all, come_all, within_passed, within_come}

abbrev Any : ℕ → Past → Player → Type 0
Any b h p = Unit {0}

any_of : (b : ℕ) (hs : List Past) (ps : List Player) → length hs ≡ length ps → EachBoard Any b hs ps
any_of b [] [] e = tt
any_of b [] (p ∷ ps) e = absurd (omega (arith, e))
any_of b (h ∷ hs) [] e = absurd (omega (arith, e))
any_of b (h ∷ hs) (p ∷ ps) e = (tt, any_of (suc b) hs ps (omega (arith, e)))

runs_append : (gone still : List Past) (first rest : List Player) → length gone ≡ length first → runs_of (gone ++ still) (first ++ rest) ≡ runs_of gone first ++ runs_of still rest
runs_append [] still [] rest e = refl
runs_append [] still (p ∷ ps) rest e = absurd (omega (arith, e))
runs_append (g ∷ gs) still [] rest e = absurd (omega (arith, e))
runs_append (g ∷ gs) still (p ∷ ps) rest e = ap (λ (l : List (Played Fiber Shared)). run_of g p.board.instructions ∷ l) (runs_append gs still ps rest (omega (arith, e)))

runs_long : (hs : List Past) (ps : List Player) → length hs ≡ length ps → length (runs_of hs ps) ≡ length hs
runs_long [] [] e = refl
runs_long [] (p ∷ ps) e = absurd (omega (arith, e))
runs_long (h ∷ hs) [] e = absurd (omega (arith, e))
runs_long (h ∷ hs) (p ∷ ps) e = ap suc (runs_long hs ps (omega (arith, e)))

before_sooner : (t : ℕ) (os : List Observation) → before t (before (suc t) os) ≡ before t os
before_sooner t [] = refl
before_sooner t (o ∷ os) = by_test (nat_lt (moment_of o) (suc t)) refl (before_sooner t os)
  where
    by_test : (c : Bool) → nat_lt (moment_of o) (suc t) ≡ c → before t (before (suc t) os) ≡ before t os → before t (if c then o ∷ before (suc t) os else before (suc t) os) ≡ before t (o ∷ os)
    by_test true q ih = ap (λ (xs : List Observation). if nat_lt (moment_of o) t then o ∷ xs else xs) ih
    by_test false q ih = (let late : nat_lt (moment_of o) t ≡ false = grind (arith, nat_tests) in ih ∙ sym (ap (λ (c : Bool). if c then o ∷ before t os else before t os) late))

all_twice : (t : ℕ) (oss : List (List Observation)) → map (before t) (map (before t) oss) ≡ map (before t) oss
all_twice t [] = refl
all_twice t (os ∷ oss) = ap (λ (x : List Observation). x ∷ map (before t) (map (before t) oss)) (before_twice t os) ∙ ap (λ (l : List (List Observation)). before t os ∷ l) (all_twice t oss)

-- at a later clock nothing was stopped before
late_stop : (t s b : ℕ) (w : Board) → w.clock ≡ t → s < t → stopped_at s b w ≡ []
late_stop t s b w clock l = (let other : (w.clock == s) ≡ false = grind (arith, nat_tests) in by_stop (is_stopped w) (w.clock == s) other)
  where
    by_stop : (c d : Bool) → d ≡ false → (if c && d then numbered b (closing_line w.clock w.end) else []) ≡ []
    by_stop true true e = cc
    by_stop true false e = refl
    by_stop false d e = refl

module _ (plan : ClassPlan) (sound : IsSoundPlan plan) (began : Option (List ℕ)) (t : ℕ) (within : t ≤ plan.until) (gone : List Past) (here : Past) (still : List Past) (first : List Player) (player : Player) (rest : List Player)
    (between : Option (List ℕ)) (are : AreIn plan began t gone (here ∷ still) first (player ∷ rest) between) (on : HasGoneOn t here player) where
  abbrev lost : ℕ → ℕ → ℕ → Bool
  lost = lost_by plan.losses

  abbrev hs : List Past
  hs = gone ++ here ∷ still

  -- what all had seen before the moment
  abbrev P : List (List Observation)
  P = map (before t) (seens (gone ++ here ∷ still))

  long : length gone ≡ length first
  long = each_long (Passed plan.budget t) 0 gone first are.passed

  long_still : length still ≡ length rest
  long_still = each_long (IsAtMoment plan.budget t) (suc (length gone)) still rest are.come.1

  fits : AllByRecursion (Fits plan.until) (gone ++ here ∷ still)
  fits = fit_all (lost_by plan.losses) t plan.until (seens (gone ++ here ∷ still)) 0 (gone ++ here ∷ still)
      (subst (AllByRecursion (λ (s : Setup). s.script.end ≡ plan.until)) (sym are.setups) sound.ends)
      (subst (AllByRecursion (λ (s : Setup). IsRisingFrom 0 (world_entries s.script.entries))) (sym are.setups) sound.rising) are.heard

  fits_gone : AllByRecursion (Fits plan.until) gone
  fits_gone = fit_left (Fits plan.until) gone (here ∷ still) fits

  fits_still : Fits plan.until here × AllByRecursion (Fits plan.until) still
  fits_still = fit_right (Fits plan.until) gone (here ∷ still) fits

  -- with the free words and the steps of the one that ended it
  module _ (used : List ℕ) (steps : ℕ) where
    abbrev there : Past
    there = record here { used = used }

    abbrev mover : Player
    mover = record player { board = record player.board { instructions = steps } }

    abbrev pub frees : List (List ℕ)
    frees = frees_of (gone ++ record here { used = used } ∷ still)

    abbrev pub C : Class Fiber Shared
    C = class_of_parts plan.setups plan.losses plan.until (frees_of (gone ++ record here { used = used } ∷ still))

    abbrev pub below : List (Played Fiber Shared)
    below = runs_of gone first

    abbrev pub one : Played Fiber Shared
    one = run_of (record here { used = used }) steps

    abbrev pub above : List (Played Fiber Shared)
    above = runs_of still rest

    abbrev pub V : World Fiber Shared
    V = world_before plan.until (suc t) (run_of (record here { used = used }) steps)

    runs_are : runs_of (gone ++ there ∷ still) (first ++ mover ∷ rest) ≡ below ++ one ∷ above
    runs_are = runs_append gone (there ∷ still) first (mover ∷ rest) long

    all_long : (gs : List Past) (ps : List Player) → length gs ≡ length ps → length (gs ++ there ∷ still) ≡ length (ps ++ mover ∷ rest)
    all_long [] [] e = ap suc long_still
    all_long [] (p ∷ ps) e = absurd (omega (arith, e))
    all_long (g ∷ gs) [] e = absurd (omega (arith, e))
    all_long (g ∷ gs) (p ∷ ps) e = ap suc (all_long gs ps (omega (arith, e)))

    each_any : EachBoard Any 0 (gone ++ there ∷ still) (first ++ mover ∷ rest)
    each_any = any_of 0 (gone ++ there ∷ still) (first ++ mover ∷ rest) (all_long gone first long)

    setups_are : setups_in (gone ++ there ∷ still) ≡ plan.setups
    setups_are = setups_split gone there still ∙ sym (setups_split gone here still) ∙ are.setups

    boards : map (λ (p : Played Fiber Shared). p.member) (below ++ one ∷ above) ≡ C.members
    boards =
        ap (map (λ (p : Played Fiber Shared). p.member)) (sym runs_are) ∙ members_are Any 0 (gone ++ there ∷ still) (first ++ mover ∷ rest) each_any
        ∙ ap (λ (ss : List Setup). members_of ss (frees_of (gone ++ there ∷ still))) setups_are

    order : AreInOrder C.members
    order = in_order plan.setups (frees_of (gone ++ there ∷ still)) sound.rising

    hear : Hear C t P 0 (below ++ one ∷ above)
    hear = subst (Hear C t P 0) runs_are (hear_all C t P Any 0 0 (gone ++ there ∷ still) (first ++ mover ∷ rest) each_any
        (heard_same (lost_by plan.losses) t plan.until (seens (gone ++ here ∷ still)) P (sym (all_twice t (seens (gone ++ here ∷ still)))) 0 (gone ++ there ∷ still)
        (heard_scripts (lost_by plan.losses) t plan.until (seens (gone ++ here ∷ still)) 0 gone here there still refl refl are.heard)))

    passed : Paired (Reached plan.until (suc t)) below (shown_boards gone first)
    passed = passed_all C t plan.budget 0 gone first fits_gone are.passed

    came : Paired (Reached plan.until t) above (shown_boards still rest)
    came = come_all C t plan.budget (suc (length gone)) still rest fits_still.1 are.come.1

    low : steps ≤ plan.budget → AllByRecursion (λ (p : Played Fiber Shared). p.steps ≤ plan.budget) (below ++ one ∷ above)
    low l = joined below (within_passed C t plan.budget 0 gone first are.passed)
      where
        joined : (ps : List (Played Fiber Shared)) → AllByRecursion (λ (p : Played Fiber Shared). p.steps ≤ plan.budget) ps → AllByRecursion (λ (p : Played Fiber Shared). p.steps ≤ plan.budget) (ps ++ one ∷ above)
        joined [] h = (l, within_come C t plan.budget (suc (length gone)) still rest are.come.1)
        joined (p ∷ ps) h = (h.0, joined ps h.1)

    number_is : length below ≡ length gone
    number_is = runs_long gone first long

    module _ (earlier : before t V.board.seen ≡ here.seen) (clock : V.board.clock ≡ t) where
      seen_here : before t V.board.seen ≡ before t here.seen
      seen_here = sym (before_twice t V.board.seen) ∙ ap (before t) earlier

      -- over the boards that are known
      e_boards : map (λ (w : Board). before t w.seen) (shown_boards gone first ++ V.board ∷ shown_boards still rest) ≡ P
      e_boards = from_gone gone first long
        where
          from_still : (qs : List Past) (ps : List Player) → length qs ≡ length ps → map (λ (w : Board). before t w.seen) (shown_boards qs ps) ≡ map (before t) (seens qs)
          from_still [] [] e = refl
          from_still [] (p ∷ ps) e = absurd (omega (arith, e))
          from_still (q ∷ qs) [] e = absurd (omega (arith, e))
          from_still (q ∷ qs) (p ∷ ps) e = ap (λ (l : List (List Observation)). before t q.seen ∷ l) (from_still qs ps (omega (arith, e)))

          from_gone : (gs : List Past) (ps : List Player) → length gs ≡ length ps → map (λ (w : Board). before t w.seen) (shown_boards gs ps ++ V.board ∷ shown_boards still rest) ≡ map (before t) (seens (gs ++ here ∷ still))
          from_gone [] [] e = ap (λ (x : List Observation). x ∷ map (λ (w : Board). before t w.seen) (shown_boards still rest)) seen_here ∙ ap (λ (l : List (List Observation)). before t here.seen ∷ l) (from_still still rest long_still)
          from_gone [] (p ∷ ps) e = absurd (omega (arith, e))
          from_gone (g ∷ gs) [] e = absurd (omega (arith, e))
          from_gone (g ∷ gs) (p ∷ ps) e = ap (λ (l : List (List Observation)). before t g.seen ∷ l) (from_gone gs ps (omega (arith, e)))

      -- what the sink took before its turn
      wrote : WroteSame t (outlook here.seen player).board V.board
      wrote = record { seen = sym seen_here; stopped = λ s b l. on s b l ∙ sym (late_stop t s b V.board clock l) }

      lines_are : lines_before t (shown_boards (gone ++ here ∷ still) (first ++ player ∷ rest)) ≡ lines_before t (shown_boards gone first ++ V.board ∷ shown_boards still rest)
      lines_are =
          ap (lines_before t) (shown_append gone (here ∷ still) first (player ∷ rest) long)
          ∙ lines_same t t (omega arith) _ _ (wrote_at t (shown_boards gone first) (outlook here.seen player).board V.board (shown_boards still rest) wrote)

      took : Took began between (lines_before t (shown_boards gone first ++ V.board ∷ shown_boards still rest) ++ moment_lines t 0 (shown_boards gone first))
      took = subst (λ (r : ByteList). Took began between (r ++ moment_lines t 0 (shown_boards gone first))) lines_are are.written

      -- the sink failed in its lines
      pub broken : (taken : Option (List ℕ)) → steps ≤ plan.budget → TookPart between taken (lines_at t (length gone) V.board) → IsStopped plan.setups plan.losses plan.until plan.budget began taken
      broken taken l part =
          (let law = begins_text C order plan.budget t within below above one (shown_boards gone first) (shown_boards still rest) boards P hear e_boards passed came (omega (arith, clock)) (low l) in
          let text : ByteList = law.0 in
          let begin : IsPrefix (lines_before t (shown_boards gone first ++ V.board ∷ shown_boards still rest) ++ (moment_lines t 0 (shown_boards gone first) ++ lines_at t (length below) V.board)) text = law.2 in
          let lines : ByteList = lines_before t (shown_boards gone first ++ V.board ∷ shown_boards still rest) in
          let all : TookPart began taken ((lines ++ moment_lines t 0 (shown_boards gone first)) ++ lines_at t (length gone) V.board) = part-then _ _ took part in
          let same : ((lines ++ moment_lines t 0 (shown_boards gone first)) ++ lines_at t (length gone) V.board) ++ begin.0 ≡ text =
          ap (λ (r : ByteList). r ++ begin.0) (append_assoc lines (moment_lines t 0 (shown_boards gone first)) (lines_at t (length gone) V.board)
          ∙ ap (λ (n : ℕ). lines ++ (moment_lines t 0 (shown_boards gone first) ++ lines_at t n V.board)) (sym number_is)) ∙ begin.1 in
          record { frees = frees; text = text; is = law.1; written = subst (TookPart began taken) same (part-more _ begin.0 all) })

      -- its budget ended
      module _ (goes : over V.board ≡ false) (some : 0 < length V.ready) where
        same_world : world_of plan.until one ≡ V
        same_world = sym (run_settled one.member.kind (suc t) one.steps (starting plan.until one.member one.script) (λ o. some))

        e_runs : map (before t) (map (seen_by plan.until) (below ++ one ∷ above)) ≡ P
        e_runs = from_below below (shown_boards gone first) passed ∙ e_boards
          where
            from_above : (ps : List (Played Fiber Shared)) (bs : List Board) → Paired (Reached plan.until t) ps bs → map (before t) (map (seen_by plan.until) ps) ≡ map (λ (w : Board). before t w.seen) bs
            from_above [] [] h = refl
            from_above [] (b ∷ bs) h = absurd h
            from_above (p ∷ ps) [] h = absurd h
            from_above (p ∷ ps) (b ∷ bs) h = ap (λ (x : List Observation). x ∷ map (before t) (map (seen_by plan.until) ps)) h.0.wrote.seen ∙ ap (λ (l : List (List Observation)). before t b.seen ∷ l) (from_above ps bs h.1)

            from_below : (ps : List (Played Fiber Shared)) (bs : List Board) → Paired (Reached plan.until (suc t)) ps bs
                → map (before t) (map (seen_by plan.until) (ps ++ one ∷ above)) ≡ map (λ (w : Board). before t w.seen) (bs ++ V.board ∷ shown_boards still rest)
            from_below [] [] h = ap (λ (w : World Fiber Shared). before t w.board.seen ∷ map (before t) (map (seen_by plan.until) above)) same_world ∙ ap (λ (l : List (List Observation)). before t V.board.seen ∷ l) (from_above above (shown_boards still rest) came)
            from_below [] (b ∷ bs) h = absurd h
            from_below (p ∷ ps) [] h = absurd h
            from_below (p ∷ ps) (b ∷ bs) h =
                ap (λ (x : List Observation). x ∷ map (before t) (map (seen_by plan.until) (ps ++ one ∷ above))) (sym (before_sooner t (seen_by plan.until p)) ∙ ap (before t) h.0.wrote.seen ∙ before_sooner t b.seen)
                ∙ ap (λ (l : List (List Observation)). before t b.seen ∷ l) (from_below ps bs h.1)

        pub cut : IsRunUpTo C below one above
        cut = is_cut C t below above one (shown_boards gone first) (shown_boards still rest) P (length gone) boards hear e_runs passed came number_is goes some clock

        text : cut_text (boards_now plan.until below) (world_of plan.until one).board (boards_now plan.until above)
            ≡ lines_before t (shown_boards gone first ++ V.board ∷ shown_boards still rest) ++ (moment_lines t 0 (shown_boards gone first) ++ (seen_at t (length gone) V.board.seen ++ numbered (length gone) (closing_line t None)))
        text = text_is C t below above one (shown_boards gone first) (shown_boards still rest) P (length gone) boards hear e_runs passed came number_is goes some clock

        regroup : (a b c d : ByteList) → ((a ++ b) ++ c) ++ d ≡ a ++ (b ++ (c ++ d))
        regroup a b c d = append_assoc (a ++ b) c d ∙ append_assoc a b (c ++ d)

        pub spent : (mid taken : Option (List ℕ)) → steps ≡ plan.budget → Took between mid (seen_at t (length gone) V.board.seen) → Took mid taken (numbered (length gone) (closing_line t None))
            → HasSpent plan.setups plan.losses plan.until plan.budget (length gone) began taken
        spent mid taken made seen closed = record {
          frees = frees;
          text = cut_text (boards_now plan.until below) (world_of plan.until one).board (boards_now plan.until above);
          has = (record { before = below; here = one; behind = above; cut = cut; within = low (omega (arith, made)); is = refl }, made);
          at = number_is;
          written = subst (Took began taken) (regroup (lines_before t (shown_boards gone first ++ V.board ∷ shown_boards still rest)) (moment_lines t 0 (shown_boards gone first)) (seen_at t (length gone) V.board.seen) (numbered (length gone) (closing_line t None)) ∙ sym text) (took-then _ _ (took-then _ _ took seen) closed);
        }

        pub spent_part : (mid taken : Option (List ℕ)) → steps ≡ plan.budget → Took between mid (seen_at t (length gone) V.board.seen) → TookPart mid taken (numbered (length gone) (closing_line t None))
            → IsStopped plan.setups plan.losses plan.until plan.budget began taken
        spent_part mid taken made seen closed = record {
          frees = frees;
          text = cut_text (boards_now plan.until below) (world_of plan.until one).board (boards_now plan.until above);
          is = inr (record { before = below; here = one; behind = above; cut = cut; within = low (omega (arith, made)); is = refl }, made);
          written = subst (TookPart began taken) (regroup (lines_before t (shown_boards gone first ++ V.board ∷ shown_boards still rest)) (moment_lines t 0 (shown_boards gone first)) (seen_at t (length gone) V.board.seen) (numbered (length gone) (closing_line t None)) ∙ sym text) (part-then _ _ (took-then _ _ took seen) closed);
        }

  -- the world behind the moment, as the class has it
  behind_is : (used : List ℕ) (steps : ℕ) → world_behind here.setup here.script t steps (used ++ []) ≡ world_before plan.until (suc t) (run_given here.setup here.script steps (used ++ []))
  behind_is used steps =
      (let next : t + 1 ≡ suc t = omega arith in
      ap (λ (u : ℕ). world_before u (t + 1) (run_given here.setup here.script steps (used ++ []))) fits_still.0.end
      ∙ ap (λ (u : ℕ). world_before plan.until u (run_given here.setup here.script steps (used ++ []))) next)

  was_spent : (mid taken : Option (List ℕ)) → WasCut (length gone) plan.budget here.setup here.script t here.seen between mid → Took mid taken (numbered (length gone) (closing_line t None))
      → HasSpent plan.setups plan.losses plan.until plan.budget (length gone) began taken
  was_spent mid taken w closed =
      (let is = behind_is w.used plan.budget in
      let saw : (world_before plan.until (suc t) (run_given here.setup here.script plan.budget (w.used ++ []))).board.seen ≡ w.sees = ap (λ (x : World Fiber Shared). x.board.seen) (sym is) ∙ w.saw [] in
      spent w.used plan.budget (ap (before t) saw ∙ w.earlier) (ap (λ (x : World Fiber Shared). x.board.clock) (sym is) ∙ w.clock []) (ap (λ (x : World Fiber Shared). over x.board) (sym is) ∙ (w.busy []).0)
      (subst (λ (x : World Fiber Shared). 0 < length x.ready) is (w.busy []).1) mid taken refl (subst (λ (os : List Observation). Took between mid (seen_at t (length gone) os)) (sym saw) w.written) closed)

  was_spent_part : (mid taken : Option (List ℕ)) → WasCut (length gone) plan.budget here.setup here.script t here.seen between mid → TookPart mid taken (numbered (length gone) (closing_line t None))
      → IsStopped plan.setups plan.losses plan.until plan.budget began taken
  was_spent_part mid taken w closed =
      (let is = behind_is w.used plan.budget in
      let saw : (world_before plan.until (suc t) (run_given here.setup here.script plan.budget (w.used ++ []))).board.seen ≡ w.sees = ap (λ (x : World Fiber Shared). x.board.seen) (sym is) ∙ w.saw [] in
      spent_part w.used plan.budget (ap (before t) saw ∙ w.earlier) (ap (λ (x : World Fiber Shared). x.board.clock) (sym is) ∙ w.clock []) (ap (λ (x : World Fiber Shared). over x.board) (sym is) ∙ (w.busy []).0)
      (subst (λ (x : World Fiber Shared). 0 < length x.ready) is (w.busy []).1) mid taken refl (subst (λ (os : List Observation). Took between mid (seen_at t (length gone) os)) (sym saw) w.written) closed)

  was_broken : (taken : Option (List ℕ)) → WasBroken (length gone) plan.budget here.setup here.script t here.seen between taken → IsStopped plan.setups plan.losses plan.until plan.budget began taken
  was_broken taken w =
      (let is = behind_is w.used (suc w.steps) in
      broken w.used (suc w.steps) (ap (λ (x : World Fiber Shared). before t x.board.seen) (sym is) ∙ w.earlier []) (ap (λ (x : World Fiber Shared). x.board.clock) (sym is) ∙ w.clock []) taken w.within
      (subst (λ (x : World Fiber Shared). TookPart between taken (lines_at t (length gone) x.board)) is (w.written [])))

  pub ran : (taken : Option (List ℕ)) (fs faults fs' : ℕ) (end : ClassEnd) → fs ≤ faults → EndsIn plan.budget t (length gone) here between taken faults fs' end → RanClass plan.setups plan.losses plan.until plan.budget began taken fs fs' end
  ran taken fs faults fs' (Done panics many) later h = absurd h
  ran taken fs faults fs' (Budget b) later h = subst (λ (n : ℕ). HasSpent plan.setups plan.losses plan.until plan.budget n began taken) (sym h.0) (was_spent h.1.between taken h.1.cut h.1.closed)
  ran taken fs faults fs' SinkFault later h = (by_where h.0, rose-before fs faults fs' later h.1)
    where
      by_where : WasBroken (length gone) plan.budget here.setup here.script t here.seen between taken ⊎ FailedLast plan.budget t (length gone) here between taken → IsStopped plan.setups plan.losses plan.until plan.budget began taken
      by_where (inl w) = was_broken taken w
      by_where (inr f) = was_spent_part f.between taken f.cut f.part

pub ended_ran : (plan : ClassPlan) → IsSoundPlan plan → (began taken : Option (List ℕ)) (fs fs' : ℕ) (end : ClassEnd) → IsEnded plan began taken fs fs' end → RanClass plan.setups plan.losses plan.until plan.budget began taken fs fs' end
ended_ran plan sound began taken fs fs' end h = ran plan sound began h.t h.within h.gone h.here h.still h.first h.player h.rest h.between h.are h.on taken fs h.faults fs' end h.later h.ends
