-- Those who pass a test, where something stands for each key: they are what stands for the keys that pass.
use Rattle.std.proofs.Common.{◌≡◌, Bool, true, false, if◌then◌else◌, Some, List, [], ◌∷◌, map, refl, ap}
use Rattle.std.specs.Option.{option_to_list}
use Rattle.board_world.specs.Waiting.{chosen, left}
use Rattle.fiber_queues.specs.Lists.{first_chosen, without_first}
use Rattle.fiber_queues.specs.Calls.{keyed}

module _ {X Y Z : Type 0} (test : Z → Bool) (f : X → Y) where
  pub chosen-keyed : (ps : List (Z × X)) → chosen test (keyed f ps) ≡ map f (chosen test ps)
  chosen-keyed [] = refl
  chosen-keyed (p ∷ ps) = by_test (test p.0) (chosen-keyed ps)
    where
      by_test : (b : Bool) → chosen test (keyed f ps) ≡ map f (chosen test ps)
          → (if b then f p.1 ∷ chosen test (keyed f ps) else chosen test (keyed f ps)) ≡ map f (if b then p.1 ∷ chosen test ps else chosen test ps)
      by_test true h = ap (λ l. f p.1 ∷ l) h
      by_test false h = h

  pub left-keyed : (ps : List (Z × X)) → left test (keyed f ps) ≡ keyed f (left test ps)
  left-keyed [] = refl
  left-keyed (p ∷ ps) = by_test (test p.0) (left-keyed ps)
    where
      by_test : (b : Bool) → left test (keyed f ps) ≡ keyed f (left test ps)
          → (if b then left test (keyed f ps) else (p.0, f p.1) ∷ left test (keyed f ps)) ≡ keyed f (if b then left test ps else p ∷ left test ps)
      by_test true h = h
      by_test false h = ap (λ l. (p.0, f p.1) ∷ l) h

  pub first-keyed : (ps : List (Z × X)) → option_to_list (first_chosen test (keyed f ps)) ≡ map f (option_to_list (first_chosen test ps))
  first-keyed [] = refl
  first-keyed (p ∷ ps) = by_test (test p.0) (first-keyed ps)
    where
      by_test : (b : Bool) → option_to_list (first_chosen test (keyed f ps)) ≡ map f (option_to_list (first_chosen test ps))
          → option_to_list (if b then Some (f p.1) else first_chosen test (keyed f ps)) ≡ map f (option_to_list (if b then Some p.1 else first_chosen test ps))
      by_test true h = refl
      by_test false h = h

  pub without-keyed : (ps : List (Z × X)) → without_first test (keyed f ps) ≡ keyed f (without_first test ps)
  without-keyed [] = refl
  without-keyed (p ∷ ps) = by_test (test p.0) (without-keyed ps)
    where
      by_test : (b : Bool) → without_first test (keyed f ps) ≡ keyed f (without_first test ps)
          → (if b then keyed f ps else (p.0, f p.1) ∷ without_first test (keyed f ps)) ≡ keyed f (if b then ps else p ∷ without_first test ps)
      by_test true h = refl
      by_test false h = ap (λ l. (p.0, f p.1) ∷ l) h
