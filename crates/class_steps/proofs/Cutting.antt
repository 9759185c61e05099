-- Boards in the midst of a moment, where the budget of one has ended.
use Rattle.std.proofs.Common.{◌≡◌, ℕ, suc, ◌≤◌, ◌<◌, inl, inr, Bool, true, false, not, ◌&&◌, if◌then◌else◌, nat_lt, ◌==◌, List, [], ◌∷◌, ◌++◌, length, map, Option, Some, None, is_some, refl, ap, sym, ◌∙◌, subst, arith}
use Rattle.std.proofs.lemmas.Bool.Decides.{nat_tests}
use Rattle.std.specs.Prelude.{IsSome}
use Rattle.std.specs.List.{AllByRecursion}
use Rattle.board_world.specs.Observations.{ByteList, Observation, End}
use Rattle.board_world.specs.Transcript.{closing_line}
use Rattle.board_world.specs.Board.{Board, Entry, over}
use Rattle.board_world.specs.Activities.{World}
use Rattle.board_world.specs.Simulation.{Paired}
use Rattle.board_world.specs.Before.{IsRisingFrom, is_by_clock}
use Rattle.board_world.proofs.Laws.{run_settled, run_same}
use Rattle.class_world.specs.Hearing.{moment_of, before, heard_of, with_heard}
use Rattle.class_world.specs.Classes.{Class, Played, starting, world_of, world_before, seen_by, Passes, Hear, IsRunTo, IsRunUpTo}
use Rattle.class_world.specs.Lines.{numbered, seen_at, is_stopped, stopped_at, moment_lines, lines_before, cut_text, WroteSame}
use Rattle.class_world.proofs.Laws.{begins_timely, one_passes, heard_of_before, lines_same}
use Rattle.class_steps.specs.Outlook.{Outlook, IsSeenAs}
use Rattle.class_steps.specs.Texts.{Reached, boards_now}
use Rattle.class_steps.proofs.Looking.{at_rest, is_over, by_end, seen_early}
use Rattle.class_steps.proofs.Alike.{stopped_at_alike}

pub boards_append : {A S : Type 0} (until : ℕ) (ps qs : List (Played A S)) → boards_now until (ps ++ qs) ≡ boards_now until ps ++ boards_now until qs
boards_append until [] qs = refl
boards_append until (p ∷ ps) qs = ap (λ (ws : List Board). (world_of until p).board ∷ ws) (boards_append until ps qs)

pub boards_length : {A S : Type 0} (until : ℕ) (ps : List (Played A S)) → length (boards_now until ps) ≡ length ps
boards_length until [] = refl
boards_length until (p ∷ ps) = ap suc (boards_length until ps)

-- a text that is cut, by the runs of the class
pub cut_as : {A S : Type 0} (until : ℕ) (ps qs : List (Played A S)) (here : Played A S) → (let w = (world_of until here).board in cut_text (boards_now until ps) w (boards_now until qs)
    ≡ lines_before w.clock (boards_now until (ps ++ here ∷ qs)) ++ (moment_lines w.clock 0 (boards_now until ps) ++ (seen_at w.clock (length ps) w.seen ++ numbered (length ps) (closing_line w.clock None))))
cut_as until ps qs here =
    (let w = (world_of until here).board in
    ap (λ (n : ℕ). lines_before w.clock (boards_now until ps ++ w ∷ boards_now until qs) ++ (moment_lines w.clock 0 (boards_now until ps) ++ (seen_at w.clock n w.seen ++ numbered n (closing_line w.clock None)))) (boards_length until ps)
    ∙ ap (λ (all : List Board). lines_before w.clock all ++ (moment_lines w.clock 0 (boards_now until ps) ++ (seen_at w.clock (length ps) w.seen ++ numbered (length ps) (closing_line w.clock None)))) (sym (boards_append until ps (here ∷ qs))))

none_before : (os : List Observation) → before 0 os ≡ []
none_before [] = refl
none_before (o ∷ os) = (let late : nat_lt (moment_of o) 0 ≡ false = grind (arith, nat_tests) in rw late (none_before os))

module _ {A S : Type 0} (C : Class A S) (p : Played A S) (rising : IsRisingFrom 0 p.script) where
  abbrev now : World A S
  now = world_of C.until p

  pub reached : (t : ℕ) (o : Outlook) → IsSeenAs C.until (suc t) p o → Reached C.until (suc t) p o.board
  reached t o h =
      (let one = one_passes C t p rising (at_rest C.until (suc t) p o h) in
      record {
        passes = one.0;
        wrote = record {
          seen = one.1 ∙ h.like.seen ∙ sym (seen_early C.until (suc t) p o h);
          stopped = λ s b l. by_end C.until (suc t) p o h (λ e. waiting e s b l) (λ e. ended e s b);
        };
      })
    where
      ended : IsSome o.board.end → (s b : ℕ) → stopped_at s b (world_of C.until p).board ≡ stopped_at s b o.board
      ended e s b =
          (let is = run_settled p.member.kind (suc t) p.steps (starting C.until p.member p.script) (λ q. absurd (let on = is_over C.until (suc t) p o h e in cc)) in
          ap (λ (w : World A S). stopped_at s b w.board) (sym is) ∙ stopped_at_alike s b (world_before C.until (suc t) p).board o.board h.like)

      waiting : o.board.end ≡ None → (s b : ℕ) → s < suc t → stopped_at s b (world_of C.until p).board ≡ stopped_at s b o.board
      waiting e s b l = by_stop (is_stopped (world_of C.until p).board) refl ((world_of C.until p).board.clock == s) refl ∙ sym (ap (λ (x : Option End). if (is_some x && not (is_by_clock x)) && (o.board.clock == s) then numbered b (closing_line o.board.clock x) else []) e)
        where
          sound_of : (x : Option End) → is_some x && not (is_by_clock x) ≡ true → is_by_clock x ≡ false
          sound_of None q = refl
          sound_of (Some x) q = by_clock (is_by_clock (Some x)) q
            where
              by_clock : (c : Bool) → not c ≡ true → c ≡ false
              by_clock true r = cc
              by_clock false r = refl

          over_of : (x : Option End) → is_some x && not (is_by_clock x) ≡ true → is_some x ≡ true
          over_of None q = cc
          over_of (Some x) q = refl

          by_stop : (c : Bool) → is_stopped (world_of C.until p).board ≡ c → (d : Bool) → ((world_of C.until p).board.clock == s) ≡ d
              → (if c && d then numbered b (closing_line (world_of C.until p).board.clock (world_of C.until p).board.end) else []) ≡ []
          by_stop false q d r = refl
          by_stop true q false r = refl
          by_stop true q true r =
              absurd (let m = p.member in
              let same : (world_of C.until p).board.clock ≡ s = grind (arith, nat_tests) in
              let soon : (world_of C.until p).board.clock < suc t = omega (arith, same, l) in
              let sound = sound_of (world_of C.until p).board.end q in
              let is = run_same m.kind (suc t) p.steps (starting C.until m p.script) (begins_timely m.kind m.main m.shared C.until p.script rising) sound soon in
              let off : over (world_of C.until p).board ≡ true = over_of (world_of C.until p).board.end q in
              let on : over (world_before C.until (suc t) p).board ≡ false = ap is_some h.like.end ∙ ap is_some e in
              let both : over (world_before C.until (suc t) p).board ≡ over (world_of C.until p).board = ap (λ (w : World A S). over w.board) is in
              cc)

-- the first moment has been reached by all
pub reached_first : {A S : Type 0} (until : ℕ) (p : Played A S) (b : Board) → Reached until 0 p b
reached_first until p b = record {
  passes = inr (omega arith);
  wrote = record { seen = none_before (seen_by until p) ∙ sym (none_before b.seen); stopped = λ s i l. absurd (omega (arith, l)) };
}

-- a moment that was reached was reached before
pub reached_sooner : {A S : Type 0} (until t u : ℕ) → t ≤ u → (p : Played A S) (b : Board) → Reached until u p b → Reached until t p b
reached_sooner until t u l p b h = record { passes = by_pass h.passes; wrote = record { seen = sooner_seen; stopped = λ s i m. h.wrote.stopped s i (omega (arith, l, m)) } }
  where
    by_pass : Passes u (world_of until p) → Passes t (world_of until p)
    by_pass (inl o) = inl o
    by_pass (inr k) = inr (omega (arith, l, k))

    before_both : (os : List Observation) → before t (before u os) ≡ before t os
    before_both [] = refl
    before_both (o ∷ os) = by_test (nat_lt (moment_of o) u) refl (before_both os)
      where
        by_test : (c : Bool) → nat_lt (moment_of o) u ≡ c → before t (before u os) ≡ before t os → before t (if c then o ∷ before u os else before u os) ≡ before t (o ∷ os)
        by_test true q ih = ap (λ (xs : List Observation). if nat_lt (moment_of o) t then o ∷ xs else xs) ih
        by_test false q ih = (let late : nat_lt (moment_of o) t ≡ false = grind (arith, nat_tests) in ih ∙ sym (ap (λ (c : Bool). if c then o ∷ before t os else before t os) late))

    sooner_seen : before t (world_of until p).board.seen ≡ before t b.seen
    sooner_seen = sym (before_both (world_of until p).board.seen) ∙ ap (before t) h.wrote.seen ∙ before_both b.seen

module _ {A S : Type 0} (C : Class A S) (t : ℕ) where
  abbrev Boards : List (Played A S) → List Board
  Boards ps = map (λ (p : Played A S). (world_of C.until p).board) ps

  abbrev Seen : List (Played A S) → List (List Observation)
  Seen ps = map (seen_by C.until) ps

  pass_all : (u : ℕ) (ps : List (Played A S)) (bs : List Board) → Paired (Reached C.until u) ps bs → AllByRecursion (λ (p : Played A S). Passes u (world_of C.until p)) ps
  pass_all u [] [] h = tt
  pass_all u [] (b ∷ bs) h = absurd h
  pass_all u (p ∷ ps) [] h = absurd h
  pass_all u (p ∷ ps) (b ∷ bs) h = (h.0.passes, pass_all u ps bs h.1)

  wrote_all : (u : ℕ) (ps : List (Played A S)) (bs : List Board) → Paired (Reached C.until u) ps bs → Paired (WroteSame u) (Boards ps) bs
  wrote_all u [] [] h = tt
  wrote_all u [] (b ∷ bs) h = absurd h
  wrote_all u (p ∷ ps) [] h = absurd h
  wrote_all u (p ∷ ps) (b ∷ bs) h = (h.0.wrote, wrote_all u ps bs h.1)

  hear_so : (seens : List (List Observation)) (all : List (List Observation)) → map (before t) all ≡ seens → (j : ℕ) (ps : List (Played A S)) → Hear C t seens j ps → Hear C t all j ps
  hear_so seens all e j [] h = tt
  hear_so seens all e j (p ∷ ps) h = (
    h.0 ∙ ap (λ (s : List (List Observation)). with_heard (heard_of C.lost t C.until j 0 s) p.member.script) (sym e)
        ∙ ap (λ (es : List Entry). with_heard es p.member.script) (heard_of_before C.lost C.until t j 0 all),
    hear_so seens all e (suc j) ps h.1,
  )

  -- boards that have reached a moment, each on what it heard of what they saw before it, are runs of the class up to it
  pub runs_to : (ps : List (Played A S)) (bs : List Board) (seens : List (List Observation)) → map (λ (p : Played A S). p.member) ps ≡ C.members → Hear C t seens 0 ps → map (before t) (Seen ps) ≡ seens
      → Paired (Reached C.until t) ps bs → IsRunTo C t ps
  runs_to ps bs seens boards hear e reached = record { boards = boards; hear = hear_so seens (Seen ps) e 0 ps hear; pass = pass_all t ps bs reached }

  cancel : (xs a b : ByteList) → xs ++ a ≡ xs ++ b → a ≡ b
  cancel [] a b h = h
  cancel (x ∷ xs) a b h = cancel xs a b (cc)

  -- the lines of a moment that all have passed
  pub moment_of_all : (ws vs : List Board) → Paired (WroteSame (suc t)) ws vs → moment_lines t 0 ws ≡ moment_lines t 0 vs
  moment_of_all ws vs h =
      (let all : lines_before t ws ++ moment_lines t 0 ws ≡ lines_before t vs ++ moment_lines t 0 vs = lines_same (suc t) (suc t) (omega arith) ws vs h in
      let old : lines_before t ws ≡ lines_before t vs = lines_same (suc t) t (omega arith) ws vs h in
      cancel (lines_before t vs) (moment_lines t 0 ws) (moment_lines t 0 vs) (ap (λ (r : ByteList). r ++ moment_lines t 0 ws) (sym old) ∙ all))

  pairs : (u : ℕ) (below above : List (Played A S)) (here : Played A S) (bs cs : List Board) (b : Board) → Paired (Reached C.until u) below bs → Reached C.until u here b → Paired (Reached C.until u) above cs
      → Paired (Reached C.until u) (below ++ here ∷ above) (bs ++ b ∷ cs)
  pairs u [] above here [] cs b h r k = (r, k)
  pairs u [] above here (x ∷ bs) cs b h r k = absurd h
  pairs u (p ∷ ps) above here [] cs b h r k = absurd h
  pairs u (p ∷ ps) above here (x ∷ bs) cs b h r k = (h.0, pairs u ps above here bs cs b h.1 r k)

  sooner_all : (ps : List (Played A S)) (bs : List Board) → Paired (Reached C.until (suc t)) ps bs → Paired (Reached C.until t) ps bs
  sooner_all [] [] h = tt
  sooner_all [] (b ∷ bs) h = absurd h
  sooner_all (p ∷ ps) [] h = absurd h
  sooner_all (p ∷ ps) (b ∷ bs) h = (reached_sooner C.until t (suc t) (omega arith) p b h.0, sooner_all ps bs h.1)

  module _ (below above : List (Played A S)) (here : Played A S) (bs cs : List Board) (seens : List (List Observation)) (number : ℕ)
      (boards : map (λ (p : Played A S). p.member) (below ++ here ∷ above) ≡ C.members) (hear : Hear C t seens 0 (below ++ here ∷ above)) (e : map (before t) (Seen (below ++ here ∷ above)) ≡ seens)
      (passed : Paired (Reached C.until (suc t)) below bs) (came : Paired (Reached C.until t) above cs)
      (is_number : length below ≡ number) (goes : over (world_before C.until (suc t) here).board ≡ false) (some : 0 < length (world_before C.until (suc t) here).ready) (clock : (world_before C.until (suc t) here).board.clock ≡ t) where
    abbrev w : World A S
    w = world_of C.until here

    abbrev v : World A S
    v = world_before C.until (suc t) here

    same : w ≡ v
    same = sym (run_settled here.member.kind (suc t) here.steps (starting C.until here.member here.script) (λ o. some))

    clock_is : w.board.clock ≡ t
    clock_is = ap (λ (x : World A S). x.board.clock) same ∙ clock

    mine : Reached C.until t here v.board
    mine = record {
      passes = inr (let c : w.board.clock ≡ t = clock_is in omega (arith, c));
      wrote = record { seen = ap (λ (x : World A S). before t x.board.seen) same; stopped = λ s b l. ap (λ (x : World A S). stopped_at s b x.board) same };
    }

    all_reached : Paired (Reached C.until t) (below ++ here ∷ above) (bs ++ v.board ∷ cs)
    all_reached = pairs t below above here bs cs v.board (sooner_all below bs passed) mine came

    pub is_cut : IsRunUpTo C below here above
    is_cut = record {
      runs = subst (λ (u : ℕ). IsRunTo C u (below ++ here ∷ above)) (sym clock_is) (runs_to (below ++ here ∷ above) (bs ++ v.board ∷ cs) seens boards hear e all_reached);
      passed = subst (λ (u : ℕ). AllByRecursion (λ (p : Played A S). Passes (suc u) (world_of C.until p)) below) (sym clock_is) (pass_all (suc t) below bs passed);
      goes = ap (λ (x : World A S). over x.board) same ∙ goes;
    }

    pub text_is : cut_text (Boards below) w.board (Boards above)
        ≡ lines_before t (bs ++ v.board ∷ cs) ++ (moment_lines t 0 bs ++ (seen_at t number v.board.seen ++ numbered number (closing_line t None)))
    text_is =
        cut_as C.until below above here
        ∙ ap (λ (n : ℕ). lines_before w.board.clock (Boards (below ++ here ∷ above)) ++ (moment_lines w.board.clock 0 (Boards below) ++ (seen_at w.board.clock n w.board.seen ++ numbered n (closing_line w.board.clock None)))) is_number
        ∙ ap (λ (c : ℕ). lines_before c (Boards (below ++ here ∷ above)) ++ (moment_lines c 0 (Boards below) ++ (seen_at c number w.board.seen ++ numbered number (closing_line c None)))) clock_is
        ∙ ap (λ (r : ByteList). r ++ (moment_lines t 0 (Boards below) ++ (seen_at t number w.board.seen ++ numbered number (closing_line t None)))) (lines_same t t (omega arith) _ _ (wrote_all t (below ++ here ∷ above) (bs ++ v.board ∷ cs) all_reached))
        ∙ ap (λ (r : ByteList). lines_before t (bs ++ v.board ∷ cs) ++ (r ++ (seen_at t number w.board.seen ++ numbered number (closing_line t None)))) (moment_of_all (Boards below) bs (wrote_all (suc t) below bs passed))
        ∙ ap (λ (x : World A S). lines_before t (bs ++ v.board ∷ cs) ++ (moment_lines t 0 bs ++ (seen_at t number x.board.seen ++ numbered number (closing_line t None)))) same
