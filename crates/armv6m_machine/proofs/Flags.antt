-- The bits that say with which flags a condition holds.
use Rattle.std.proofs.Common.{◌≡◌, ◌≢◌, ℕ, zero, suc, ◌/◌, ◌%◌, ◌^◌, ◌<◌, Bool, true, false, ◌&&◌, ◌==◌, refl, subst, arith}
use Rattle.std.proofs.lemmas.Bool.Decides.{nat_tests}
use Rattle.thumb_code.specs.Arithmetic.{holds, is_same}

abbrev all_below : (ℕ → Bool) → ℕ → Bool
all_below test zero = true
all_below test (suc n) = test n && all_below test n

both : (a b : Bool) → (a && b) ≡ true → (a ≡ true) × (b ≡ true)
both true true e = (refl, refl)
both true false e = absurd (cc)
both false b e = absurd (cc)

below-all : (test : ℕ → Bool) (n k : ℕ) → all_below test n ≡ true → k < n → test k ≡ true
below-all test zero k h lt = absurd (omega arith)
below-all test (suc n) k h lt = by_place (k == n) refl (both (test n) (all_below test n) h) (λ below. below-all test n k (both (test n) (all_below test n) h).1 below)
  where
    by_place : (c : Bool) → (k == n) ≡ c → (test n ≡ true) × (all_below test n ≡ true) → (k < n → test k ≡ true) → test k ≡ true
    by_place true e p more = (let same : n ≡ k = grind (arith, nat_tests) in subst (λ (m : ℕ). test m ≡ true) same p.0)
    by_place false e p more = more (let other : k ≢ n = grind (arith, nat_tests) in omega arith)

same : (a b : Bool) → is_same a b ≡ true → a ≡ b
same true true e = refl
same true false e = absurd (cc)
same false true e = absurd (cc)
same false false e = refl

abbrev is_right : ℕ → ℕ → ℕ → Bool
is_right bits cond k = is_same (bits / 2 ^ k % 2 == 1) (holds k cond)

-- Where sixteen bits are right they say it for all flags.
pub right_bits : (bits cond : ℕ) → all_below (is_right bits cond) 16 ≡ true → (k : ℕ) → k < 16 → (bits / 2 ^ k % 2 == 1) ≡ holds k cond
right_bits bits cond e k h = same (bits / 2 ^ k % 2 == 1) (holds k cond) (below-all (is_right bits cond) 16 k e h)

-- A condition asks the four flags alone.
pub of_four : (flags cond : ℕ) → holds (flags % 16) cond ≡ holds flags cond
of_four flags cond =
    let n : flags % 16 / 8 % 2 ≡ flags / 8 % 2 = omega arith in
    let z : flags % 16 / 4 % 2 ≡ flags / 4 % 2 = omega arith in
    let c : flags % 16 / 2 % 2 ≡ flags / 2 % 2 = omega arith in
    let v : flags % 16 % 2 ≡ flags % 2 = omega arith in
    rw (n, z, c, v) refl
