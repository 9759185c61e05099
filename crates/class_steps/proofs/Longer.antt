-- A board's run beside the same run stopped behind a moment: what it wrote up to there, with more steps, and with what it hears at the next moment.
use Rattle.std.proofs.Common.{◌≡◌, ℕ, zero, suc, ◌+◌, ◌≤◌, ◌<◌, ◌⊎◌, inl, inr, Bool, true, false, not, ◌&&◌, if◌then◌else◌, nat_lt, nat_le, ◌==◌, List, [], ◌∷◌, ◌++◌, Option, Some, None, is_some, refl, ap, sym, ◌∙◌, subst, arith, append_assoc}
use Rattle.std.proofs.lemmas.Bool.Decides.{nat_tests}
use Rattle.std.proofs.lemmas.List.{append-nil}
use Rattle.sts_base.specs.Prefix.{IsPrefix}
use Rattle.board_world.specs.declared.events.Event.{Event}
use Rattle.board_world.specs.Observations.{ByteList, Observation, End}
use Rattle.board_world.specs.Transcript.{line, closing_line}
use Rattle.board_world.specs.Board.{Board, over}
use Rattle.board_world.specs.Activities.{World}
use Rattle.board_world.specs.Before.{IsRisingFrom, is_by_clock}
use Rattle.board_world.proofs.Laws.{IsTimely, run_settled, run_same, run_over, run_sum, extends_run}
use Rattle.class_world.specs.Hearing.{moment_of, before, with_heard, raised_at}
use Rattle.class_world.specs.Classes.{Played, starting, world_of, world_before, Passes, IsAtRest}
use Rattle.class_world.specs.Lines.{numbered, seen_at, is_stopped, stopped_at, lines_at}
use Rattle.class_world.specs.Keeping.{with_kept}
use Rattle.class_world.proofs.Laws.{begins_early, begins_timely, early_run, cut_at, passes_on, stopped_for_good, given_so_far, rising_heard}
use Rattle.class_steps.specs.Texts.{Reached}
use Rattle.class_steps.proofs.Cutting.{reached_first, reached_sooner}

seen_at_append : (t b : ℕ) (xs ys : List Observation) → seen_at t b (xs ++ ys) ≡ seen_at t b xs ++ seen_at t b ys
seen_at_append t b [] ys = refl
seen_at_append t b (x ∷ xs) ys =
    (let l : ByteList = if moment_of x == t then numbered b (line x) else [] in
    ap (λ (r : ByteList). l ++ r) (seen_at_append t b xs ys) ∙ sym (append_assoc l (seen_at t b xs) (seen_at t b ys)))

seen_at_before : (s t b : ℕ) → s < t → (os : List Observation) → seen_at s b (before t os) ≡ seen_at s b os
seen_at_before s t b l [] = refl
seen_at_before s t b l (o ∷ os) = by_test (nat_lt (moment_of o) t) refl (seen_at_before s t b l os)
  where
    by_test : (c : Bool) → nat_lt (moment_of o) t ≡ c → seen_at s b (before t os) ≡ seen_at s b os → seen_at s b (if c then o ∷ before t os else before t os) ≡ seen_at s b (o ∷ os)
    by_test true p ih = ap (λ (r : ByteList). (if moment_of o == s then numbered b (line o) else []) ++ r) ih
    by_test false p ih = (let other : (moment_of o == s) ≡ false = grind (arith, nat_tests) in rw other ih)

-- a stop that isn't by the clock is one
over_of : (x : Option End) → is_some x && not (is_by_clock x) ≡ true → is_some x ≡ true
over_of None q = cc
over_of (Some x) q = refl

sound_of : (x : Option End) → is_some x && not (is_by_clock x) ≡ true → is_by_clock x ≡ false
sound_of None q = refl
sound_of (Some x) q = by_clock (is_by_clock (Some x)) q
  where
    by_clock : (c : Bool) → not c ≡ true → c ≡ false
    by_clock true r = cc
    by_clock false r = refl

going_sound : (x : Option End) → is_some x ≡ false → is_by_clock x ≡ false
going_sound None q = refl
going_sound (Some x) q = cc

-- a run that isn't over hasn't stopped
none_stopped : (s b : ℕ) (w : Board) → over w ≡ false → stopped_at s b w ≡ []
none_stopped s b w o = ap (λ (c : Bool). if (c && not (is_by_clock w.end)) && (w.clock == s) then numbered b (closing_line w.clock w.end) else []) o

module _ {A S : Type 0} (until u : ℕ) (p : Played A S) (rising : IsRisingFrom 0 p.script) where
  timely : IsTimely (starting until p.member p.script)
  timely = begins_timely p.member.kind p.member.main p.member.shared until p.script rising

  -- a run that is over where it was stopped is the run itself, and so is one that hasn't passed the moment
  pub over_same : over (world_before until (suc u) p).board ≡ true → world_before until (suc u) p ≡ world_of until p
  over_same o = run_settled p.member.kind (suc u) p.steps (starting until p.member p.script) (λ q. absurd (cc))

  pub soon_same : is_by_clock (world_of until p).board.end ≡ false → (world_of until p).board.clock < suc u → world_before until (suc u) p ≡ world_of until p
  soon_same s l = run_same p.member.kind (suc u) p.steps (starting until p.member p.script) timely s l

  -- it stops alike
  pub stopped_same : (s b : ℕ) → s < suc u → stopped_at s b (world_of until p).board ≡ stopped_at s b (world_before until (suc u) p).board
  stopped_same s b l = by_over (over (world_before until (suc u) p).board) refl
    where
      by_stop : over (world_before until (suc u) p).board ≡ false → (c : Bool) → is_stopped (world_of until p).board ≡ c → (d : Bool) → ((world_of until p).board.clock == s) ≡ d
          → (if c && d then numbered b (closing_line (world_of until p).board.clock (world_of until p).board.end) else []) ≡ []
      by_stop o false q d r = refl
      by_stop o true q false r = refl
      by_stop o true q true r =
          absurd (let same : (world_of until p).board.clock ≡ s = grind (arith, nat_tests) in
          let is = soon_same (sound_of (world_of until p).board.end q) (omega (arith, same, l)) in
          let off : over (world_of until p).board ≡ true = over_of (world_of until p).board.end q in
          let both : over (world_before until (suc u) p).board ≡ over (world_of until p).board = ap (λ (w : World A S). over w.board) is in
          cc)

      by_over : (c : Bool) → over (world_before until (suc u) p).board ≡ c → stopped_at s b (world_of until p).board ≡ stopped_at s b (world_before until (suc u) p).board
      by_over true o = ap (λ (w : World A S). stopped_at s b w.board) (sym (over_same o))
      by_over false o = by_stop o (is_stopped (world_of until p).board) refl ((world_of until p).board.clock == s) refl ∙ sym (none_stopped s b (world_before until (suc u) p).board o)

  -- where it passes the moment, it was at rest where it was stopped, and saw the same up to there
  pub stops : Passes (suc u) (world_of until p) → IsAtRest (world_before until (suc u) p) × (before (suc u) (world_of until p).board.seen ≡ (world_before until (suc u) p).board.seen)
  stops h =
      (let m = p.member in
      let c = cut_at m.kind (suc u) p.steps (starting until m p.script) (begins_early m.kind m.main m.shared until u p.script) (λ o. omega arith) timely h in
      (c.stopped, c.seen))

  pub rests : IsAtRest (world_before until (suc u) p) → Passes (suc u) (world_of until p)
  rests h = (let m = p.member in passes_on m.kind (suc u) p.steps (starting until m p.script) (begins_early m.kind m.main m.shared until u p.script) (λ o. omega arith) timely h)

  -- it passes the moment, or is the run that was stopped
  pub beside : Passes (suc u) (world_of until p) ⊎ ((world_before until (suc u) p ≡ world_of until p) × (over (world_of until p).board ≡ false) × ((world_of until p).board.clock < suc u))
  beside = by_tests (over (world_of until p).board) refl (nat_le (suc u) (world_of until p).board.clock) refl
    where
      by_tests : (c : Bool) → over (world_of until p).board ≡ c → (d : Bool) → nat_le (suc u) (world_of until p).board.clock ≡ d
          → Passes (suc u) (world_of until p) ⊎ ((world_before until (suc u) p ≡ world_of until p) × (over (world_of until p).board ≡ false) × ((world_of until p).board.clock < suc u))
      by_tests true o d l = inl (inl o)
      by_tests false o true l = inl (inr (grind (arith, nat_tests)))
      by_tests false o false l =
          (let low : (world_of until p).board.clock < suc u = grind (arith, nat_tests) in
          inr (soon_same (going_sound (world_of until p).board.end o) low, o, low))

  -- where it was stopped in the moment, it has come to it
  pub come : u ≤ (world_before until (suc u) p).board.clock → Reached until u p (world_before until (suc u) p).board
  come l = by_case beside
    where
      early : before (suc u) (world_before until (suc u) p).board.seen ≡ (world_before until (suc u) p).board.seen
      early = (let m = p.member in (early_run m.kind (suc u) p.steps (starting until m p.script) (begins_early m.kind m.main m.shared until u p.script)).seen)

      by_case : Passes (suc u) (world_of until p) ⊎ ((world_before until (suc u) p ≡ world_of until p) × (over (world_of until p).board ≡ false) × ((world_of until p).board.clock < suc u))
          → Reached until u p (world_before until (suc u) p).board
      by_case (inl h) =
          reached_sooner until u (suc u) (omega arith) p (world_before until (suc u) p).board
          (record { passes = h; wrote = record { seen = (stops h).1 ∙ sym early; stopped = λ s b k. stopped_same s b k } })
      by_case (inr h) = record {
        passes = inr (let c : (world_before until (suc u) p).board.clock ≡ (world_of until p).board.clock = ap (λ (w : World A S). w.board.clock) h.0 in omega (arith, c, l));
        wrote = record { seen = ap (λ (w : World A S). before u w.board.seen) (sym h.0); stopped = λ s b k. stopped_same s b (omega (arith, k)) };
      }

  -- its lines of the moment, while it goes on there
  cut_seen : (b : ℕ) → seen_at u b (world_before until (suc u) p).board.seen ≡ seen_at u b (world_of until p).board.seen
  cut_seen b = by_case beside
    where
      by_case : Passes (suc u) (world_of until p) ⊎ ((world_before until (suc u) p ≡ world_of until p) × (over (world_of until p).board ≡ false) × ((world_of until p).board.clock < suc u))
          → seen_at u b (world_before until (suc u) p).board.seen ≡ seen_at u b (world_of until p).board.seen
      by_case (inl h) = ap (seen_at u b) (sym (stops h).1) ∙ seen_at_before u (suc u) b (omega arith) (world_of until p).board.seen
      by_case (inr h) = ap (λ (w : World A S). seen_at u b w.board.seen) h.0

-- with more steps
module _ {A S : Type 0} (until k : ℕ) (p : Played A S) (rising : IsRisingFrom 0 p.script) where
  longer_cut : (u : ℕ) → IsAtRest (world_before until (suc u) p) → world_before until (suc u) (record p { steps = k + p.steps }) ≡ world_before until (suc u) p
  longer_cut u h = stopped_for_good p.member.kind (suc u) k p.steps (starting until p.member p.script) h

  longer_passes : (u : ℕ) → Passes (suc u) (world_of until p) → Passes (suc u) (world_of until (record p { steps = k + p.steps }))
  longer_passes u h =
      (let r = (stops until u p rising h).0 in
      rests until u (record p { steps = k + p.steps }) rising (subst (λ (w : World A S). IsAtRest w) (sym (longer_cut u r)) r))

  -- what it has written before a moment to which it has come it has written
  pub longer_reached : (t : ℕ) (b : Board) → Reached until t p b → Reached until t (record p { steps = k + p.steps }) b
  longer_reached zero b h = reached_first until (record p { steps = k + p.steps }) b
  longer_reached (suc u) b h =
      (let q : Played A S = record p { steps = k + p.steps } in
      let r = stops until u p rising h.passes in
      let on = longer_passes u h.passes in
      let same = longer_cut u r.0 in
      record {
        passes = on;
        wrote = record {
          seen = (stops until u q rising on).1 ∙ ap (λ (w : World A S). w.board.seen) same ∙ sym r.1 ∙ h.wrote.seen;
          stopped = λ s i l. stopped_same until u q rising s i l ∙ ap (λ (w : World A S). stopped_at s i w.board) same ∙ sym (stopped_same until u p rising s i l) ∙ h.wrote.stopped s i l;
        };
      })

  stays : over (world_of until p).board ≡ true → world_of until (record p { steps = k + p.steps }) ≡ world_of until p
  stays o = run_sum p.member.kind p.steps k (starting until p.member p.script) ∙ run_over p.member.kind k (world_of until p) o

  -- its lines of a moment begin with those that the run has which was stopped behind it
  module _ (u number : ℕ) where
    more_seen : IsPrefix (seen_at u number (world_before until (suc u) p).board.seen) (seen_at u number (world_of until (record p { steps = k + p.steps })).board.seen)
    more_seen =
        (let e = (extends_run p.member.kind p.steps k (starting until p.member p.script)).seen in (
          seen_at u number e.0,
          ap (λ (l : ByteList). l ++ seen_at u number e.0) (cut_seen until u p rising number)
              ∙ sym (seen_at_append u number (world_of until p).board.seen e.0) ∙ ap (seen_at u number) e.1,
        ))

    going_lines : over (world_before until (suc u) p).board ≡ false → lines_at u number (world_before until (suc u) p).board ≡ seen_at u number (world_before until (suc u) p).board.seen
    going_lines o = (let s = seen_at u number (world_before until (suc u) p).board.seen in ap (λ (l : ByteList). s ++ l) (none_stopped u number (world_before until (suc u) p).board o) ∙ append-nil s)

    pub cut_lines : over (world_of until (record p { steps = k + p.steps })).board ≡ false
        → IsPrefix (lines_at u number (world_before until (suc u) p).board) (seen_at u number (world_of until (record p { steps = k + p.steps })).board.seen)
    cut_lines goes = by_over (over (world_before until (suc u) p).board) refl
      where
        by_over : (c : Bool) → over (world_before until (suc u) p).board ≡ c → IsPrefix (lines_at u number (world_before until (suc u) p).board) (seen_at u number (world_of until (record p { steps = k + p.steps })).board.seen)
        by_over true o =
            absurd (let same = over_same until u p rising o in
            let off : over (world_of until p).board ≡ true = ap (λ (w : World A S). over w.board) (sym same) ∙ o in
            let still : over (world_of until (record p { steps = k + p.steps })).board ≡ over (world_of until p).board = ap (λ (w : World A S). over w.board) (stays off) in
            cc)
        by_over false o = (more_seen.0, ap (λ (l : ByteList). l ++ more_seen.0) (going_lines o) ∙ more_seen.1)

    pub more_lines : IsPrefix (lines_at u number (world_before until (suc u) p).board) (lines_at u number (world_of until (record p { steps = k + p.steps })).board)
    more_lines = by_over (over (world_before until (suc u) p).board) refl
      where
        by_over : (c : Bool) → over (world_before until (suc u) p).board ≡ c → IsPrefix (lines_at u number (world_before until (suc u) p).board) (lines_at u number (world_of until (record p { steps = k + p.steps })).board)
        by_over true o =
            (let same = over_same until u p rising o in
            let off : over (world_of until p).board ≡ true = ap (λ (w : World A S). over w.board) (sym same) ∙ o in
            ([], append-nil (lines_at u number (world_before until (suc u) p).board) ∙ ap (λ (w : World A S). lines_at u number w.board) (same ∙ sym (stays off))))
        by_over false o =
            (let l = stopped_at u number (world_of until (record p { steps = k + p.steps })).board in
            let s = lines_at u number (world_before until (suc u) p).board in
            (more_seen.0 ++ l, sym (append_assoc s more_seen.0 l) ∙ ap (λ (x : ByteList). x ++ l) (ap (λ (y : ByteList). y ++ more_seen.0) (going_lines o) ∙ more_seen.1)))

-- with what it hears at the next moment
module _ {A S : Type 0} (until u : ℕ) (p : Played A S) (rising : IsRisingFrom 0 p.script) (events : List Event) where
  given_cut : world_before until (suc u) (record p { script = with_heard (raised_at (suc u) events) p.script }) ≡ with_kept (suc u) events (world_before until (suc u) p)
  given_cut = given_so_far p.member.kind p.member.main p.member.shared until (suc u) p.steps events p.script rising

  pub given_reached : Passes (suc u) (world_of until p) → Reached until (suc u) (record p { script = with_heard (raised_at (suc u) events) p.script }) (world_of until p).board
  given_reached h =
      (let q : Played A S = record p { script = with_heard (raised_at (suc u) events) p.script } in
      let more = rising_heard (raised_at (suc u) events) p.script rising in
      let r = stops until u p rising h in
      let on = rests until u q more (subst (λ (w : World A S). IsAtRest w) (sym given_cut) r.0) in
      record {
        passes = on;
        wrote = record {
          seen = (stops until u q more on).1 ∙ ap (λ (w : World A S). w.board.seen) given_cut ∙ sym r.1;
          stopped = λ s b l. stopped_same until u q more s b l ∙ ap (λ (w : World A S). stopped_at s b w.board) given_cut ∙ sym (stopped_same until u p rising s b l);
        };
      })
