-- Runs on scripts that agree up to a moment show the same before it.
use Rattle.std.proofs.Common.{◌≡◌, ℕ, zero, suc, ◌+◌, ◌≤◌, Bool, true, false, if◌then◌else◌, nat_lt, List, [], ◌∷◌, ◌++◌, refl, ap, sym, ◌∙◌, arith}
use Rattle.std.proofs.lemmas.Bool.Decides.{nat_tests}
use Rattle.std.proofs.lemmas.List.Elements.{All-nil, All-cons}
use Rattle.board_world.specs.Observations.{Observation}
use Rattle.board_world.specs.Board.{Entry}
use Rattle.board_world.specs.Kinds.{Kind}
use Rattle.board_world.specs.Activities.{World}
use Rattle.board_world.specs.World.{start}
use Rattle.board_world.specs.Runs.{run}
use Rattle.board_world.specs.Before.{IsFrom, IsRisingFrom, run_before}
use Rattle.board_world.proofs.Laws.{run_then}
use Rattle.class_world.specs.Hearing.{moment_of, before}
use Rattle.class_world.specs.Classes.{Passes}
use Rattle.class_world.proofs.Laws.{cut_at, stopped_for_good, begins_early, begins_timely}
use Rattle.script_laws.specs.Scripts.{entries_before}
use Rattle.script_laws.proofs.Ends.{run_end}

-- the entries from a moment on
abbrev entries_from : ℕ → List Entry → List Entry
entries_from t [] = []
entries_from t (e ∷ es) = if nat_lt e.at t then entries_from t es else e ∷ entries_from t es

none_before : (t c : ℕ) (es : List Entry) → t ≤ c → IsRisingFrom c es → (entries_before t es ≡ []) × (entries_from t es ≡ es)
none_before t c [] l h = (refl, refl)
none_before t c (e ∷ es) l h =
    (let first : c ≤ e.at = h.0 in
    let test : nat_lt e.at t ≡ false = grind (arith, nat_tests) in
    let ih = none_before t e.at es (omega (arith, l, first)) h.1 in
    (rw test ih.0, rw test (ap (λ (xs : List Entry). e ∷ xs) ih.1)))

-- a script in order is both, one behind the other
split : (t c : ℕ) (es : List Entry) → IsRisingFrom c es → es ≡ entries_before t es ++ entries_from t es
split t c [] h = refl
split t c (e ∷ es) h = by_test (nat_lt e.at t) refl (split t e.at es h.1)
  where
    by_test : (b : Bool) → nat_lt e.at t ≡ b → es ≡ entries_before t es ++ entries_from t es
        → e ∷ es ≡ (if b then e ∷ entries_before t es else entries_before t es) ++ (if b then entries_from t es else e ∷ entries_from t es)
    by_test true q ih = ap (λ (xs : List Entry). e ∷ xs) ih
    by_test false q ih =
        (let none = none_before t e.at es (grind (arith, nat_tests)) h.1 in
        ap (λ (xs : List Entry). xs ++ (e ∷ es)) (sym none.0) ∙ ap (λ (xs : List Entry). entries_before t es ++ (e ∷ xs)) (sym none.1))

from_is : (t : ℕ) (es : List Entry) → IsFrom t (entries_from t es)
from_is t [] = All-nil (λ (e : Entry). t ≤ e.at)
from_is t (e ∷ es) = by_test (nat_lt e.at t) refl (from_is t es)
  where
    by_test : (c : Bool) → nat_lt e.at t ≡ c → IsFrom t (entries_from t es) → IsFrom t (if c then entries_from t es else e ∷ entries_from t es)
    by_test true q h = h
    by_test false q h = All-cons (λ (x : Entry). t ≤ x.at) e (entries_from t es) (grind (arith, nat_tests)) h

-- nothing was seen before the first moment
none_seen : (os : List Observation) → before 0 os ≡ []
none_seen [] = refl
none_seen (o ∷ os) = (let late : nat_lt (moment_of o) 0 ≡ false = grind (arith, nat_tests) in rw late (none_seen os))

module _ {A S : Type 0} (K : Kind A S) (main : ℕ) (shared : S) where
  abbrev Begun : ℕ → List Entry → World A S
  Begun until es = start K main shared until es

  -- what a run that stops before a moment sees hangs on the entries before it
  by_early : (t n until : ℕ) (es : List Entry) → IsRisingFrom 0 es → (run_before K t n (Begun until es)).board.seen ≡ (run_before K t n (Begun until (entries_before t es))).board.seen
  by_early t n until es h =
      ap (λ (xs : List Entry). (run_before K t n (Begun until xs)).board.seen) (split t 0 es h)
      ∙ ap (λ (w : World A S). w.board.seen) (run_then K t (entries_from t es) (from_is t es) n (Begun until (entries_before t es)))

  by_end : (t n u v : ℕ) (es : List Entry) → t ≤ u → t ≤ v → (run_before K t n (Begun u es)).board.seen ≡ (run_before K t n (Begun v es)).board.seen
  by_end t n u v es hu hv = ap (λ (w : World A S). w.board.seen) (run_end K t u v hu hv n (Begun v es))

  past : (t m n u v : ℕ) (xs ys : List Entry) → IsRisingFrom 0 xs → IsRisingFrom 0 ys → suc t ≤ u → suc t ≤ v → entries_before (suc t) xs ≡ entries_before (suc t) ys
      → Passes (suc t) (run K m (Begun u xs)) → Passes (suc t) (run K n (Begun v ys)) → before (suc t) (run K m (Begun u xs)).board.seen ≡ before (suc t) (run K n (Begun v ys)).board.seen
  past t m n u v xs ys hx hy lu lv same p q =
      (let c = cut_at K (suc t) m (Begun u xs) (begins_early K main shared u t xs) (λ o. omega arith) (begins_timely K main shared u xs hx) p in
      let d = cut_at K (suc t) n (Begun v ys) (begins_early K main shared v t ys) (λ o. omega arith) (begins_timely K main shared v ys hy) q in
      let count : n + m ≡ m + n = omega arith in
      c.seen
      ∙ ap (λ (w : World A S). w.board.seen) (sym (stopped_for_good K (suc t) n m (Begun u xs) c.stopped))
      ∙ by_early (suc t) (n + m) u xs hx
      ∙ by_end (suc t) (n + m) u v (entries_before (suc t) xs) lu lv
      ∙ ap (λ (es : List Entry). (run_before K (suc t) (n + m) (Begun v es)).board.seen) same
      ∙ ap (λ (k : ℕ). (run_before K (suc t) k (Begun v (entries_before (suc t) ys))).board.seen) count
      ∙ sym (by_early (suc t) (m + n) v ys hy)
      ∙ ap (λ (w : World A S). w.board.seen) (stopped_for_good K (suc t) m n (Begun v ys) d.stopped)
      ∙ sym d.seen)

  by_moment : (t m n u v : ℕ) (xs ys : List Entry) → IsRisingFrom 0 xs → IsRisingFrom 0 ys → t ≤ u → t ≤ v → entries_before t xs ≡ entries_before t ys
      → Passes t (run K m (Begun u xs)) → Passes t (run K n (Begun v ys)) → before t (run K m (Begun u xs)).board.seen ≡ before t (run K n (Begun v ys)).board.seen
  by_moment zero m n u v xs ys hx hy lu lv same p q = none_seen (run K m (Begun u xs)).board.seen ∙ sym (none_seen (run K n (Begun v ys)).board.seen)
  by_moment (suc t) m n u v xs ys hx hy lu lv same p q = past t m n u v xs ys hx hy lu lv same p q

pub agree : {A S : Type 0} (K : Kind A S) (main : ℕ) (shared : S) (t m n end end' : ℕ) (script script' : List Entry)
    → IsRisingFrom 0 script → IsRisingFrom 0 script' → t ≤ end → t ≤ end' → entries_before t script ≡ entries_before t script'
    → Passes t (run K m (start K main shared end script)) → Passes t (run K n (start K main shared end' script'))
    → before t (run K m (start K main shared end script)).board.seen ≡ before t (run K n (start K main shared end' script')).board.seen
agree K main shared t m n end end' script script' hx hy lu lv same p q = by_moment K main shared t m n end end' script script' hx hy lu lv same p q
