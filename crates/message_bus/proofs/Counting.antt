-- How many of a list pass a test.
use Rattle.std.proofs.Common.{◌≡◌, ℕ, zero, suc, ◌+◌, Bool, true, false, not, ◌||◌, ◌==◌, if◌then◌else◌, List, [], ◌∷◌, ◌++◌, map, refl, arith}
use Rattle.std.proofs.lemmas.Bool.Decides.{nat_tests}
use Rattle.std.specs.List.{list_any}
use Rattle.board_world.specs.Waiting.{how_many, chosen, left}

abbrev pub is_zero : ℕ → Bool
is_zero zero = true
is_zero (suc n) = false

pub zero-test : (n : ℕ) → is_zero n ≡ (n == 0)
zero-test zero = refl
zero-test (suc n) = grind (arith, nat_tests)

-- how many pass a test
module _ {X : Type 0} (test : X → Bool) where
  pub many-append : (xs ys : List X) → how_many test (xs ++ ys) ≡ how_many test xs + how_many test ys
  many-append [] ys = omega arith
  many-append (x ∷ xs) ys = by_test (test x) (many-append xs ys)
    where
      by_test : (c : Bool) → how_many test (xs ++ ys) ≡ how_many test xs + how_many test ys
          → (if c then suc (how_many test (xs ++ ys)) else how_many test (xs ++ ys)) ≡ (if c then suc (how_many test xs) else how_many test xs) + how_many test ys
      by_test true h = omega (arith, h)
      by_test false h = h

  pub none-many : (xs : List X) → not (list_any test xs) ≡ is_zero (how_many test xs)
  none-many [] = refl
  none-many (x ∷ xs) = by_test (test x) (none-many xs)
    where
      by_test : (c : Bool) → not (list_any test xs) ≡ is_zero (how_many test xs) → not (c || list_any test xs) ≡ is_zero (if c then suc (how_many test xs) else how_many test xs)
      by_test true h = refl
      by_test false h = h

  pub many-map : {Y : Type 0} (f : Y → X) (test' : Y → Bool) → ((y : Y) → test (f y) ≡ test' y) → (ys : List Y) → how_many test (map f ys) ≡ how_many test' ys
  many-map f test' h [] = refl
  many-map f test' h (y ∷ ys) = (let a = h y in let b = many-map f test' h ys in rw (a, b))

-- those who are woken and those who wait on are those who waited
pub many-woken : {Z X : Type 0} (key : Z → Bool) (test : X → Bool) (ps : List (Z × X)) → how_many test (chosen key ps) + how_many (λ p. test p.1) (left key ps) ≡ how_many (λ p. test p.1) ps
many-woken key test [] = refl
many-woken key test (p ∷ ps) = by_key (key p.0) (many-woken key test ps)
  where
    more : (c : Bool) (k l m : ℕ) → k + l ≡ m → (if c then suc k else k) + l ≡ (if c then suc m else m)
    more true k l m h = omega (arith, h)
    more false k l m h = h

    stays : (c : Bool) (k l m : ℕ) → k + l ≡ m → k + (if c then suc l else l) ≡ (if c then suc m else m)
    stays true k l m h = omega (arith, h)
    stays false k l m h = h

    by_key : (b : Bool) → how_many test (chosen key ps) + how_many (λ p. test p.1) (left key ps) ≡ how_many (λ p. test p.1) ps
        → how_many test (if b then p.1 ∷ chosen key ps else chosen key ps) + how_many (λ p. test p.1) (if b then left key ps else p ∷ left key ps) ≡ (if test p.1 then suc (how_many (λ p. test p.1) ps) else how_many (λ p. test p.1) ps)
    by_key true h = more (test p.1) (how_many test (chosen key ps)) (how_many (λ p. test p.1) (left key ps)) (how_many (λ p. test p.1) ps) h
    by_key false h = stays (test p.1) (how_many test (chosen key ps)) (how_many (λ p. test p.1) (left key ps)) (how_many (λ p. test p.1) ps) h
