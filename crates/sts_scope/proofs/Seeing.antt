-- Going up from a class: each step sees one class more.
use Rattle.std.proofs.Common.{◌≡◌, ℕ, zero, suc, ◌<◌, refl, sym, subst, arith, Bool, true, false, Option, Some, None, List, [], ◌∷◌, ◌++◌}
use Rattle.std.specs.Prelude.{get_or, set, not, if◌then◌else◌}
use Rattle.sts_scope.specs.declared.entries.ClassHead.{ClassHead}
use Rattle.sts_scope.specs.Lines.{GoesUp}
use Rattle.std.proofs.lemmas.List.{append-nil}

-- how many aren't seen
abbrev pub unseen : List Bool → ℕ
unseen [] = 0
unseen (true ∷ rest) = unseen rest
unseen (false ∷ rest) = suc (unseen rest)

pub unseen_less : (seen : List Bool) (c : ℕ) → get_or seen c true ≡ false → unseen (set seen c true) < unseen seen
unseen_less [] c h = cc
unseen_less (true ∷ rest) zero h = cc
unseen_less (false ∷ rest) zero h = omega arith
unseen_less (true ∷ rest) (suc c) h = unseen_less rest c h
unseen_less (false ∷ rest) (suc c) h = let i : unseen (set rest c true) < unseen rest = unseen_less rest c h in omega (arith, i)

-- some were seen, and what is seen from here on is seen behind them
pub record IsUnderway (classes : List ClassHead) (old : List Bool) (before : List ℕ) (c : ℕ) (seen : List Bool) (order : List ℕ) (next : Option ℕ) : Type 0 where
  pub these : List ℕ
  pub parts : order ≡ before ++ these
  pub goes : (new : List Bool) (rest : List ℕ) → GoesUp classes seen new next rest → GoesUp classes old new (Some c) (these ++ rest)

pub marked_less : (seen new : List Bool) (c : ℕ) (b : Bool) → b ≡ not (get_or seen c true) → new ≡ (if b then set seen c true else seen) → b ≡ true → unseen new < unseen seen
marked_less seen new c true h is e = subst (λ xs. unseen xs < unseen seen) (sym is) (unseen_less seen c (false_if (get_or seen c true) h))
  where
    false_if : (b : Bool) → true ≡ not b → b ≡ false
    false_if false h = refl
    false_if true h = cc
marked_less seen new c false h is e = cc

-- it ends at one that was seen, or has no base
pub ends_seen : (classes : List ClassHead) (old seen new : List Bool) (before order : List ℕ) (c d : ℕ) (next : Option ℕ) (b : Bool) → IsUnderway classes old before c seen order next → next ≡ Some d →
    b ≡ not (get_or seen d true) → new ≡ (if b then set seen d true else seen) → b ≡ false → (these : List ℕ) × (order ≡ before ++ these) × GoesUp classes old new (Some c) these
ends_seen classes old seen new before order c d next false u e h is n =
    (u.these, u.parts, subst (λ xs. GoesUp classes old new (Some c) xs) (append-nil u.these) (u.goes new [] (subst (λ o. GoesUp classes seen new o []) (sym e) (true_if (get_or seen d true) h, is))))
  where
    true_if : (b : Bool) → false ≡ not b → b ≡ true
    true_if true h = refl
    true_if false h = cc
ends_seen classes old seen new before order c d next true u e h is n = cc

pub ends_here : (classes : List ClassHead) (old seen : List Bool) (before order : List ℕ) (c : ℕ) (next : Option ℕ) → IsUnderway classes old before c seen order next → next ≡ None →
    (these : List ℕ) × (order ≡ before ++ these) × GoesUp classes old seen (Some c) these
ends_here classes old seen before order c next u e =
    (u.these, u.parts, subst (λ xs. GoesUp classes old seen (Some c) xs) (append-nil u.these) (u.goes seen [] (subst (λ o. GoesUp classes seen seen o []) (sym e) refl)))
