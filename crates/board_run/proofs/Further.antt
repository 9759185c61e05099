-- Stretches of a run, one behind the other.
use Rattle.std.proofs.Common.{◌≡◌, ℕ, zero, suc, ◌+◌, ◌<◌, ◌≤◌, ◌⊎◌, inl, inr, List, ◌++◌, length, Option, None, IsSome, is_some, sym, ap, ◌∙◌, subst, arith, append_assoc}
use Rattle.board_world.specs.Board.{Board as WorldBoard}
use Rattle.board_world.specs.Activities.{World}
use Rattle.bank_model.specs.Fibers.{Fiber, Shared}
use Rattle.bank_model.specs.BoardMachine.{fibers}
use Rattle.board_outside.specs.Moves.{Move}
use Rattle.board_run.specs.Represents.{BoardState}
use Rattle.board_run.specs.Run.{idled_to, run_to, Reaches, ComesTo, ComesThrough}
use Rattle.board_run.specs.Advancing.{IsBusy}
use Rattle.board_run.proofs.FiberGoesOn.{first_ready}
use Rattle.board_run.proofs.Stepping.{some_turning}
use Rattle.board_run.proofs.Course.{busy_to}

-- so many instructions further, before each of which somebody was ready; and whatever moment the run stops before
abbrev pub MakesTo : Option ℕ → List ℕ → ℕ → List Move → BoardState → BoardState → Type 0
MakesTo bound image more moves old new = ComesThrough IsBusy bound image more moves old new

abbrev pub Makes : List ℕ → ℕ → List Move → BoardState → BoardState → Type 0
Makes image more moves old new = (bound : Option ℕ) → MakesTo bound image more moves old new

pub before_or_not : (j k : ℕ) → (j < k) ⊎ (k ≤ j)
before_or_not zero zero = inr (omega arith)
before_or_not zero (suc k) = inl (omega arith)
before_or_not (suc j) zero = inr (omega arith)
before_or_not (suc j) (suc k) = elim (before_or_not j k) [ inl e ↦ inl (omega (arith, e)) | inr e ↦ inr (omega (arith, e)) ]

pub through_then : (such : World Fiber Shared → Type 0) (bound : Option ℕ) (image : List ℕ) (n m : ℕ) (first second : List Move) (a b c : BoardState) → ComesThrough such bound image n first a b → ComesThrough such bound image m second b c
    → ComesThrough such bound image (m + n) (first ++ second) a c
through_then such bound image n m first second a b c f g start k used met r =
    let K = fibers image in
    let x = f start k used met r in
    let y = g start (n + k) (used ++ x.0) (met ++ first) x.1 in
    let count : m + (n + k) ≡ m + n + k = omega arith in
    let words = append_assoc used x.0 y.0 in
    let moves = append_assoc met first second in
    let same : (rest : List ℕ) → (used ++ (x.0 ++ y.0)) ++ rest ≡ (used ++ x.0) ++ (y.0 ++ rest) = λ rest. ap (λ l. l ++ rest) (sym words) ∙ append_assoc (used ++ x.0) y.0 rest in
    let early : (rest : List ℕ) (j : ℕ) → k ≤ j → j < n + k → such (run_to K bound j (idled_to K bound (start ((used ++ (x.0 ++ y.0)) ++ rest)))) =
    λ rest j l h. subst (λ us. such (run_to K bound j (idled_to K bound (start us)))) (sym (same rest)) (x.2 (y.0 ++ rest) j l h) in
    let late : (rest : List ℕ) (j : ℕ) → n + k ≤ j → j < m + n + k → such (run_to K bound j (idled_to K bound (start ((used ++ (x.0 ++ y.0)) ++ rest)))) =
    λ rest j l h. subst (λ us. such (run_to K bound j (idled_to K bound (start (us ++ rest))))) words (y.2 rest j l (omega (arith, h))) in (
      x.0 ++ y.0,
      subst (λ j. Reaches bound image start j (used ++ (x.0 ++ y.0)) (met ++ (first ++ second)) c) count
          (subst (λ l. Reaches bound image start (m + (n + k)) (used ++ (x.0 ++ y.0)) l c) moves (subst (λ l. Reaches bound image start (m + (n + k)) l ((met ++ first) ++ second) c) words y.1)),
      λ rest j l h. elim (before_or_not j (n + k)) [ inl e ↦ early rest j l e | inr e ↦ late rest j e h ],
    )

-- what comes further by no instruction
pub through_none : (such : World Fiber Shared → Type 0) (bound : Option ℕ) (image : List ℕ) (moves : List Move) (a b : BoardState) → ComesTo bound image 0 moves a b → ComesThrough such bound image 0 moves a b
through_none such bound image moves a b f start n used met r = (let x = f start n used met r in (x.0, x.1, λ rest j l h. absurd (omega (arith, l, h))))

-- one instruction of the running fiber
pub through_one : (bound : Option ℕ) (image : List ℕ) (moves : List Move) (a b : BoardState) → a.plain.end ≡ None → IsSome a.runtime.running → ComesTo bound image 1 moves a b → ComesThrough IsBusy bound image 1 moves a b
through_one bound image moves a b going runs f start n used met r =
    let K = fibers image in
    let x = f start n used met r in
    let t = some_turning a.runtime.running runs in
    let here : (rest : List ℕ) → IsBusy (r.at rest) = λ rest.
    let w = r.at rest in
    let h = r.shows rest in
    let first = first_ready image a w h t.0 t.1 in
    let there : length w.ready ≡ _ = ap length first in
    (ap (λ (p : WorldBoard). is_some p.end) h.board ∙ ap (λ o. is_some o) going, omega (arith, there)) in
    let is : (rest : List ℕ) → r.at rest ≡ run_to K bound n (idled_to K bound (start (used ++ rest))) = λ rest.
    sym (busy_to image bound (r.at rest) _ _ (first_ready image a (r.at rest) (r.shows rest) t.0 t.1)) ∙ r.settles rest in (
      x.0,
      x.1,
      λ rest j l h.
          let at : n ≡ j = omega (arith, l, h) in
          subst (λ i. IsBusy (run_to K bound i (idled_to K bound (start ((used ++ x.0) ++ rest))))) at
          (subst (λ us. IsBusy (run_to K bound n (idled_to K bound (start us)))) (sym (append_assoc used x.0 rest)) (subst IsBusy (is (x.0 ++ rest)) (here (x.0 ++ rest)))),
    )
