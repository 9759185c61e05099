-- Boards that wait for what comes past the class's end, if for anything, have ended.
use Rattle.std.proofs.Common.{◌≡◌, ℕ, zero, suc, ◌≤◌, Bool, true, false, ◌||◌, if◌then◌else◌, nat_lt, List, [], ◌∷◌, ◌++◌, map, max, Option, Some, None, is_some, refl, ap, sym, ◌∙◌, subst, arith}
use Rattle.std.proofs.lemmas.Bool.Decides.{nat_tests}
use Rattle.std.specs.Prelude.{IfSome, IsSome}
use Rattle.std.specs.List.{AllByRecursion}
use Rattle.board_world.specs.declared.clock.Idle.{Idle}
use Rattle.board_world.specs.declared.clock.Idle.TheVariants.{Jump, Quiet, Script}
use Rattle.board_world.specs.Observations.{ByteList, End, Quietly, By_script, Panicked, Faulted}
use Rattle.board_world.specs.Transcript.{closing_line}
use Rattle.board_world.specs.Rules.{clock_move, up_to}
use Rattle.board_world.specs.Board.{Board, next_entry, over, ended_by}
use Rattle.board_world.specs.Waiting.{least}
use Rattle.board_world.specs.Activities.{World}
use Rattle.board_world.specs.World.{clock_moves}
use Rattle.board_world.specs.Runs.{run}
use Rattle.board_world.specs.Simulation.{Paired}
use Rattle.board_world.specs.Before.{is_by_clock, run_before}
use Rattle.board_world.proofs.Laws.{run_settled}
use Rattle.class_world.specs.Classes.{Class, Played, starting, world_of, world_before, seen_before, AreInOrder, Hear, IsAtRest, IsSteppedTo, IsWhole}
use Rattle.class_world.specs.Lines.{numbered, is_stopped, lines_at, moment_lines, lines_before, is_by_script, some_by_script, latest, class_end, closing_lines, whole_text}
use Rattle.class_world.proofs.Laws.{ends_by_clock, stepped_runs, all_ended}
use Rattle.class_steps.specs.Outlook.{Outlook, HasSameLook, IsSeenAs, looks, some_next, last_line, text_of_looks}
use Rattle.class_steps.proofs.Looking.{at_rest, is_over, by_end}
use Rattle.class_steps.proofs.Alike.{whole_alike}

-- a board's end, where nothing comes up to the end
abbrev pub ended_when : ℕ → Option ℕ → Board → Board
ended_when until None b = ended_by b Quietly
ended_when until (Some m) b = ended_by (record b { clock = until }) By_script

abbrev pub closed : ℕ → Outlook → Board
closed until o = if is_some o.board.end then o.board else ended_when until o.next o.board

module _ {A S : Type 0} (until : ℕ) (p : Played A S) (o : Outlook) (h : IsSeenAs until (suc until) p o) where
  abbrev begun : World A S
  begun = starting until p.member p.script

  abbrev before_end : World A S
  before_end = world_before until (suc until) p

  stays : IsSome o.board.end → HasSameLook (world_of until p).board o.board
  stays s = (let is = run_settled p.member.kind (suc until) p.steps begun (λ q. absurd (let on = is_over until (suc until) p o h s in cc)) in subst (λ w. HasSameLook w.board o.board) is h.like)

  ends : (i : Idle) → o.board.end ≡ None → clock_move (least before_end.sleepers) (next_entry before_end.board.script) before_end.board.until ≡ i → over (clock_moves i before_end).board ≡ true → world_of until p ≡ clock_moves i before_end
  ends i e says over_then =
      (let v = run_before p.member.kind (suc until) (suc h.before) (starting until p.member p.script) in
      let same : before_end ≡ v = ap (λ n. run_before p.member.kind (suc until) n (starting until p.member p.script)) h.steps in
      let w = h.waits e in
      let on : over before_end.board ≡ false = ap is_some h.like.end ∙ ap is_some e in
      ap (λ n. run p.member.kind n (starting until p.member p.script)) h.steps
      ∙ ends_by_clock p.member.kind (suc until) h.before (starting until p.member p.script) h.settled
      (subst (λ x. over x.board ≡ false) same on) (subst (λ x. x.ready ≡ []) same w.nobody) (subst (λ x. x.board.queue ≡ []) same w.none)
      i (subst (λ x. clock_move (least x.sleepers) (next_entry x.board.script) x.board.until ≡ i) same says) (subst (λ x. over (clock_moves i x).board ≡ true) same over_then)
      ∙ ap (clock_moves i) (sym same))

  by_next : o.board.end ≡ None → (n : Option ℕ) → clock_move (least before_end.sleepers) (next_entry before_end.board.script) before_end.board.until ≡ up_to until n → IfSome n (λ m. suc until ≤ m)
      → HasSameLook (world_of until p).board (ended_when until n o.board)
  by_next e None says late = subst (λ w. HasSameLook w.board (ended_by o.board Quietly)) (sym (ends Quiet e says refl)) (record { seen = h.like.seen; clock = h.like.clock; end = refl })
  by_next e (Some m) says late =
      (let past : nat_lt until m ≡ true = (let l : suc until ≤ m = late in grind (arith, nat_tests)) in
      subst (λ w. HasSameLook w.board (ended_when until (Some m) o.board)) (sym (ends Script e (says ∙ ap (λ c. if c then Script else Jump m) past) refl)) (record { seen = h.like.seen; clock = h.until_is; end = refl }))

  pub closes : HasSameLook (world_of until p).board (closed until o)
  closes = by_end until (suc until) p o h
      (λ e. subst (λ c. HasSameLook (world_of until p).board (if c then o.board else ended_when until o.next o.board)) (sym (ap is_some e))
      (let w = h.waits e in by_next e o.next (ap (λ n. up_to before_end.board.until n) w.comes ∙ ap (λ u. up_to u o.next) h.until_is) w.late))
      (λ s. subst (λ c. HasSameLook (world_of until p).board (if c then o.board else ended_when until o.next o.board)) (sym s) (stays s))

-- a board that hasn't ended by the clock, to which nothing comes once it has ended
abbrev IsFit : Outlook → Type 0
IsFit o = (is_by_clock o.board.end ≡ false) × (IsSome o.board.end → o.next ≡ None)

module _ (until : ℕ) where
  abbrev all_closed : List Outlook → List Board
  all_closed os = map (closed until) os

  abbrev Fit : List Outlook → Type 0
  Fit os = AllByRecursion IsFit os

  by_both : (X : Outlook → Type 0) (o : Outlook) → ((e : Option End) → (n : Option ℕ) → (b : Board) → is_by_clock e ≡ false → (is_some e ≡ true → n ≡ None) → X (record { board = record b { end = e }; next = n })) → IsFit o → X o
  by_both X o f h = f o.board.end o.next o.board h.0 h.1

  stopped_same : (o : Outlook) → IsFit o → is_stopped (closed until o) ≡ is_stopped o.board
  stopped_same o h = by_both (λ x. is_stopped (closed until x) ≡ is_stopped x.board) o cases h
    where
      cases : (e : Option End) → (n : Option ℕ) → (b : Board) → is_by_clock e ≡ false → (is_some e ≡ true → n ≡ None)
          → (let x : Outlook = record { board = record b { end = e }; next = n } in is_stopped (closed until x) ≡ is_stopped x.board)
      cases (Some e) n b q r = refl
      cases None None b q r = refl
      cases None (Some m) b q r = refl

  lines_same : (t b : ℕ) (o : Outlook) → IsFit o → lines_at t b (closed until o) ≡ lines_at t b o.board
  lines_same t b o h = by_both (λ x. lines_at t b (closed until x) ≡ lines_at t b x.board) o cases h
    where
      cases : (e : Option End) → (n : Option ℕ) → (w : Board) → is_by_clock e ≡ false → (is_some e ≡ true → n ≡ None)
          → (let x : Outlook = record { board = record w { end = e }; next = n } in lines_at t b (closed until x) ≡ lines_at t b x.board)
      cases (Some e) n w q r = refl
      cases None None w q r = refl
      cases None (Some m) w q r = refl

  moment_same : (t b : ℕ) (os : List Outlook) → Fit os → moment_lines t b (all_closed os) ≡ moment_lines t b (looks os)
  moment_same t b [] h = refl
  moment_same t b (o ∷ os) h =
      ap (λ (r : ByteList). r ++ moment_lines t (suc b) (all_closed os)) (lines_same t b o h.0) ∙ ap (λ (r : ByteList). lines_at t b o.board ++ r) (moment_same t (suc b) os h.1)

  before_same : (t : ℕ) (os : List Outlook) → Fit os → lines_before t (all_closed os) ≡ lines_before t (looks os)
  before_same zero os h = refl
  before_same (suc t) os h =
      ap (λ (r : ByteList). r ++ moment_lines t 0 (all_closed os)) (before_same t os h) ∙ ap (λ (r : ByteList). lines_before t (looks os) ++ r) (moment_same t 0 os h)

  script_same : (o : Outlook) → IsFit o → is_by_script (closed until o).end ≡ is_some o.next
  script_same o h = by_both (λ x. is_by_script (closed until x).end ≡ is_some x.next) o cases h
    where
      by_kind : (e : End) → is_by_clock (Some e) ≡ false → is_by_script (Some e) ≡ false
      by_kind Quietly q = refl
      by_kind By_script q = absurd (cc)
      by_kind (Panicked code) q = refl
      by_kind (Faulted kind address) q = refl

      cases : (e : Option End) → (n : Option ℕ) → (w : Board) → is_by_clock e ≡ false → (is_some e ≡ true → n ≡ None)
          → (let x : Outlook = record { board = record w { end = e }; next = n } in is_by_script (closed until x).end ≡ is_some x.next)
      cases (Some e) n w q r = by_kind e q ∙ sym (ap is_some (r refl))
      cases None None w q r = refl
      cases None (Some m) w q r = refl

  some_same : (os : List Outlook) → Fit os → some_by_script (all_closed os) ≡ some_next os
  some_same [] h = refl
  some_same (o ∷ os) h = ap (λ (c : Bool). c || some_by_script (all_closed os)) (script_same o h.0) ∙ ap (λ (c : Bool). is_some o.next || c) (some_same os h.1)

  clock_same : (o : Outlook) → is_some o.next ≡ false → (closed until o).clock ≡ o.board.clock
  clock_same o none = cases o.board.end o.next none
    where
      cases : (e : Option End) (n : Option ℕ) → is_some n ≡ false → (if is_some e then o.board else ended_when until n o.board).clock ≡ o.board.clock
      cases (Some e) n q = refl
      cases None None q = refl
      cases None (Some m) q = absurd (cc)

  latest_same : (os : List Outlook) → some_next os ≡ false → latest (all_closed os) ≡ latest (looks os)
  latest_same [] none = refl
  latest_same (o ∷ os) none = by_first (is_some o.next) refl none (λ k. latest_same os k)
    where
      by_first : (c : Bool) → is_some o.next ≡ c → (c || some_next os) ≡ false → (some_next os ≡ false → latest (all_closed os) ≡ latest (looks os)) → max (closed until o).clock (latest (all_closed os)) ≡ max o.board.clock (latest (looks os))
      by_first true q k ih = absurd (cc)
      by_first false q k ih = ap (λ (c : ℕ). max c (latest (all_closed os))) (clock_same o q) ∙ ap (max o.board.clock) (ih k)

  closing_same : (closing : ByteList) (b : ℕ) (os : List Outlook) → Fit os → closing_lines closing b (all_closed os) ≡ closing_lines closing b (looks os)
  closing_same closing b [] h = refl
  closing_same closing b (o ∷ os) h =
      ap (λ (c : Bool). (if c then [] else numbered b closing) ++ closing_lines closing (suc b) (all_closed os)) (stopped_same o h.0)
      ∙ ap (λ (r : ByteList). (if is_stopped o.board then [] else numbered b closing) ++ r) (closing_same closing (suc b) os h.1)

  end_same : (os : List Outlook) → Fit os → class_end until (all_closed os) ≡ last_line until os
  end_same os h = by_script (some_next os) refl
    where
      by_script : (c : Bool) → some_next os ≡ c → class_end until (all_closed os) ≡ (if c then closing_line until (Some By_script) else closing_line (latest (looks os)) (Some Quietly))
      by_script true q = ap (λ (c : Bool). if c then closing_line until (Some By_script) else closing_line (latest (all_closed os)) (Some Quietly)) (some_same os h ∙ q)
      by_script false q =
          ap (λ (c : Bool). if c then closing_line until (Some By_script) else closing_line (latest (all_closed os)) (Some Quietly)) (some_same os h ∙ q)
          ∙ ap (λ (n : ℕ). closing_line n (Some Quietly)) (latest_same os q)

  text_same : (os : List Outlook) → Fit os → whole_text until (all_closed os) ≡ text_of_looks until os
  text_same os h =
      ap (λ (r : ByteList). r ++ closing_lines (class_end until (all_closed os)) 0 (all_closed os)) (before_same (suc until) os h)
      ∙ ap (λ (r : ByteList). lines_before (suc until) (looks os) ++ closing_lines r 0 (all_closed os)) (end_same os h)
      ∙ ap (λ (r : ByteList). lines_before (suc until) (looks os) ++ r) (closing_same (last_line until os) 0 os h)

module _ {A S : Type 0} (C : Class A S) where
  abbrev Seen : List (Played A S) → List Outlook → Type 0
  Seen ps os = Paired (IsSeenAs C.until (suc C.until)) ps os

  all_fit : (ps : List (Played A S)) (os : List Outlook) → Seen ps os → AllByRecursion IsFit os
  all_fit [] [] h = tt
  all_fit [] (o ∷ os) h = absurd h
  all_fit (p ∷ ps) [] h = absurd h
  all_fit (p ∷ ps) (o ∷ os) h = ((h.0.sound, h.0.ended), all_fit ps os h.1)

  all_rest : (ps : List (Played A S)) (os : List Outlook) → Seen ps os → AllByRecursion (λ (p : Played A S). IsAtRest (world_before C.until (suc C.until) p)) ps
  all_rest [] [] h = tt
  all_rest [] (o ∷ os) h = absurd h
  all_rest (p ∷ ps) [] h = absurd h
  all_rest (p ∷ ps) (o ∷ os) h = (at_rest C.until (suc C.until) p o h.0, all_rest ps os h.1)

  all_close : (ps : List (Played A S)) (os : List Outlook) → Seen ps os → Paired HasSameLook (map (λ (p : Played A S). (world_of C.until p).board) ps) (map (closed C.until) os)
  all_close [] [] h = tt
  all_close [] (o ∷ os) h = absurd h
  all_close (p ∷ ps) [] h = absurd h
  all_close (p ∷ ps) (o ∷ os) h = (closes C.until p o h.0, all_close ps os h.1)

  pub ends_whole : (ps : List (Played A S)) (os : List Outlook) → AreInOrder C.members → map (λ (p : Played A S). p.member) ps ≡ C.members
      → Hear C (suc C.until) (map (seen_before C.until (suc C.until)) ps) 0 ps → Seen ps os
      → IsWhole C ps × (whole_text C.until (map (λ (p : Played A S). (world_of C.until p).board) ps) ≡ text_of_looks C.until os)
  ends_whole ps os order boards hear seen =
      (let stepped : IsSteppedTo C (suc C.until) ps = record { boards = boards; hear = hear; rest = all_rest ps os seen } in
      let runs = (stepped_runs C C.until ps order stepped).0 in (
        record { runs = runs; ended = all_ended C order ps runs.pass },
        whole_alike C.until _ _ (all_close ps os seen) ∙ text_same C.until os (all_fit ps os seen),
      ))
