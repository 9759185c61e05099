-- Of more numbers below n than n one stands twice.
use Rattle.std.proofs.Common.{◌≡◌, ℕ, suc, ◌<◌, ◌≤◌, ◌||◌, refl, sym, ap, Bool, true, false, Some, List, [], ◌∷◌, length, arith, eqb-true, inl, inr}
use Rattle.std.specs.Prelude.{slice_get, ◌⊎◌, eqb}
use Rattle.std.specs.List.{list_any, IsDistinct, AllByRecursion}
use Rattle.std.proofs.lemmas.Map.Steps.{length-le_from_distinct_below}

-- a number stands at two places
abbrev pub StandsTwice : List ℕ → Type 0
StandsTwice xs = (i j x : ℕ) × (i < j) × (slice_get xs i ≡ Some x) × (slice_get xs j ≡ Some x)

place_of : (xs : List ℕ) (x : ℕ) → list_any (eqb x) xs ≡ true → (i : ℕ) × (slice_get xs i ≡ Some x)
place_of [] x h = cc
place_of (y ∷ xs) x h =
    let go : (b : Bool) → eqb x y ≡ b → (b || list_any (eqb x) xs) ≡ true → (i : ℕ) × (slice_get (y ∷ xs) i ≡ Some x) =
    λ b. elim b as (λ c. eqb x y ≡ c → (c || list_any (eqb x) xs) ≡ true → (i : ℕ) × (slice_get (y ∷ xs) i ≡ Some x)) [
      | true ↦ (λ q r. (0, ap (λ (z : ℕ). Some z) (sym (eqb-true x y q))))
      | false ↦ (λ q r. let (i, is) = place_of xs x r in (suc i, is))
    ] in
    go (eqb x y) refl h

apart : (xs : List ℕ) (x : ℕ) → list_any (eqb x) xs ≡ false → AllByRecursion (λ y. eqb x y ≡ false) xs
apart [] x h = tt
apart (y ∷ xs) x h =
    let go : (b : Bool) → eqb x y ≡ b → (b || list_any (eqb x) xs) ≡ false → AllByRecursion (λ z. eqb x z ≡ false) (y ∷ xs) =
    λ b. elim b as (λ c. eqb x y ≡ c → (c || list_any (eqb x) xs) ≡ false → AllByRecursion (λ z. eqb x z ≡ false) (y ∷ xs)) [
      | true ↦ (λ q r. cc)
      | false ↦ (λ q r. (q, apart xs x r))
    ] in
    go (eqb x y) refl h

distinct_or_twice : (xs : List ℕ) → IsDistinct eqb xs ⊎ StandsTwice xs
unfolding IsDistinct
distinct_or_twice [] = inl tt
distinct_or_twice (x ∷ xs) =
    let go : (b : Bool) → list_any (eqb x) xs ≡ b → IsDistinct eqb (x ∷ xs) ⊎ StandsTwice (x ∷ xs) =
    λ b. elim b as (λ c. list_any (eqb x) xs ≡ c → IsDistinct eqb (x ∷ xs) ⊎ StandsTwice (x ∷ xs)) [
      | true ↦ (λ q. let (i, is) = place_of xs x q in inr (0, suc i, x, omega arith, refl, is))
      | false ↦ (λ q. elim (distinct_or_twice xs) [
        | inl d ↦ inl (apart xs x q, d)
        | inr (i, j, y, less, at_i, at_j) ↦ inr (suc i, suc j, y, omega arith, at_i, at_j)
      ])
    ] in
    go (list_any (eqb x) xs) refl

pub one_twice : (xs : List ℕ) (n : ℕ) → n < length xs → ((i x : ℕ) → slice_get xs i ≡ Some x → x < n) → StandsTwice xs
one_twice xs n more below = elim (distinct_or_twice xs) [
  | inl d ↦ absurd (
      let few : length xs ≤ n = length-le_from_distinct_below xs n d (λ q h. let (i, is) = place_of xs q h in below i q is) in
      omega (arith, few, more))
  | inr t ↦ t
]
