-- Operators on numbers, and the words that instructions make.
use Rattle.std.proofs.Common.{zero, suc, ◌≡◌, ℕ, ◌+◌, ◌*◌, ◌-◌, ◌/◌, ◌%◌, ◌<◌, ◌≤◌, ◌^◌, min, ⊎_elim, Bool, true, false, ◌==◌, if◌then◌else◌, refl, sym, ap, ◌∙◌, subst, arith}
use Rattle.std.specs.Prelude.{ℤ, pos, negsuc, neg_ℤ, ◌+ℤ◌, ◌-ℤ◌, ◌*ℤ◌, int_rem, int_div, bit_and, bit_or, bit_xor}
use Rattle.std.specs.Ordering.{int_eq}
use Rattle.std.specs.Int.{cast_signed, cast_unsigned, w32, int_wrap, int_shl, int_shr, int_wrapping_div, int_bit_or, int_bit_xor, int_bit_and, int_bit_not}
use Rattle.std.proofs.lemmas.Int.{ints, int_rem_euclid_is, of_z-to_z, to_z-of_z, wrapping_add-bits, wrapping_sub-bits, wrapping_mul-bits}
use Rattle.std.proofs.lemmas.Nat.{and_le_l, or_lt, xor_lt, and_mask, pow_pos, pow-add, div-add-mod', div_below, div-mul-add}
use Rattle.std.proofs.Math.Nat.{mul-le-mul_left}
use Rattle.std.specs.Int.Signed.{mag_shr, mag_rem}
use Rattle.std.specs.Prelude.{FitsSigned, unsigned_abs}
use Rattle.std.proofs.Math.Nat.{div-le_self}
use Rattle.thumb_code.specs.RegisterFile.{word}
use Rattle.thumb_code.specs.Arithmetic.{sign, inverted, sum_of, shifted, lsl, lsr, asr}
use Rattle.bank_model.specs.AllServices.{number_word, quotient, remainder}
use Rattle.sts_meaning.specs.Values.{to_int32, shift_count}
use Rattle.sts_meaning.specs.Values as values
use Rattle.arena_values.proofs.Operators.{shifted_by}
use Rattle.arena_values.proofs.Addresses.{which}
use Rattle.arena_values.proofs.Signs.{signed_low, signed_high}

-- a word for a number
abbrev pub Reads : ℤ → ℕ → Type 0
Reads x v = (x ≡ cast_signed w32 v) × (v < 2 ^ 32)

-- its word again
pub word_is : (x : ℤ) (v : ℕ) → Reads x v → cast_unsigned w32 x ≡ v
word_is x v r = ap (cast_unsigned w32) r.0 ∙ of_z-to_z w32 v r.1

module _ (x y : ℤ) (v w : ℕ) (a : Reads x v) (b : Reads y w) where
  pub or_reads : Reads (int_bit_or w32 x y) (bit_or v w)
  or_reads = let e = word_is x v a in let f = word_is y w b in (λ i. cast_signed w32 (bit_or (e i) (f i)), or_lt 32 v w a.1 b.1)

  pub xor_reads : Reads (int_bit_xor w32 x y) (bit_xor v w)
  xor_reads = let e = word_is x v a in let f = word_is y w b in (λ i. cast_signed w32 (bit_xor (e i) (f i)), xor_lt 32 v w a.1 b.1)

  pub and_reads : Reads (int_bit_and w32 x y) (bit_and v w)
  and_reads = let e = word_is x v a in let f = word_is y w b in (λ i. cast_signed w32 (bit_and (e i) (f i)), omega (arith, and_le_l v w, a.1))

  pub sum_reads : Reads (to_int32 (x +ℤ y)) (sum_of v w 0)
  sum_reads =
      let e : (v + w) % 4294967296 ≡ (v + w + 0) % 4294967296 = ap (λ n. n % 4294967296) (omega arith) in
      let both : int_wrap w32 (x +ℤ y) ≡ int_wrap w32 (cast_signed w32 v +ℤ cast_signed w32 w) = λ i. int_wrap w32 (a.0 i +ℤ b.0 i) in
      (both ∙ sym (wrapping_add-bits w32 v w a.1 b.1) ∙ ap (cast_signed w32) e, omega arith)

  pub difference_reads : Reads (to_int32 (x -ℤ y)) (sum_of v (inverted w) 1)
  difference_reads =
      let l = b.1 in
      let e : (v + (4294967296 - w)) % 4294967296 ≡ (v + (4294967295 - w) + 1) % 4294967296 = ap (λ n. n % 4294967296) (omega arith) in
      let both : int_wrap w32 (x -ℤ y) ≡ int_wrap w32 (cast_signed w32 v -ℤ cast_signed w32 w) = λ i. int_wrap w32 (a.0 i -ℤ b.0 i) in
      (both ∙ sym (wrapping_sub-bits w32 v w a.1 b.1) ∙ ap (cast_signed w32) e, omega arith)

  pub product_reads : Reads (to_int32 (x *ℤ y)) (word (v * w))
  product_reads =
      let both : int_wrap w32 (x *ℤ y) ≡ int_wrap w32 (cast_signed w32 v *ℤ cast_signed w32 w) = λ i. int_wrap w32 (a.0 i *ℤ b.0 i) in
      (both ∙ sym (wrapping_mul-bits w32 v w a.1 b.1), omega arith)

-- a number that fits, by its word
reads_of : (z : ℤ) (n : ℕ) → FitsSigned w32 z → cast_unsigned w32 z ≡ n → n < 2 ^ 32 → Reads z n
reads_of z n f e l = (sym (to_z-of_z w32 z f) ∙ ap (cast_signed w32) e, l)

pub fits_read : (x : ℤ) (v : ℕ) → Reads x v → FitsSigned w32 x
fits_read x v r = ⊎_elim (λ l. subst (FitsSigned w32) (sym (r.0 ∙ signed_low v l)) (record { sfits = l })) (λ l. subst (FitsSigned w32) (sym (r.0 ∙ signed_high v l)) (record { sfits = omega arith })) (which v (2 ^ 31))

fits_cast : (n : ℕ) → n < 2 ^ 32 → FitsSigned w32 (cast_signed w32 n)
fits_cast n l = fits_read (cast_signed w32 n) n (refl, l)

unsigned_small : (z : ℤ) → FitsSigned w32 z → cast_unsigned w32 z < 2 ^ 32
unsigned_small (pos n) f = omega (arith, f.sfits)
unsigned_small (negsuc n) f = omega arith

-- the word that a shift leaves
shifted_is : (flags : ℕ) (f : ℕ → ℕ → ℕ × ℕ) (v w x : ℕ) → (w % 32 ≡ 0 → v ≡ x) → (f v (w % 32)).0 ≡ x → shifted_by flags f v w ≡ x
shifted_is flags f v w x z e =
    let n : bit_and w 31 % 256 ≡ w % 32 = ap (λ k. k % 256) (and_mask w 5) ∙ omega arith in
    ap (λ k. (shifted flags f v k).0) n ∙ by (w % 32 == 0) refl
  where
    by : (b : Bool) → (w % 32 == 0) ≡ b → (shifted flags f v (w % 32)).0 ≡ x
    by true q = rw q (z (grind arith))
    by false q = rw q e

-- what is left of a number below M * K by K, from the top
complement : (v m k : ℕ) → 0 < k → v < m * k → (m * k - suc v) / k ≡ m - suc (v / k)
complement v m k p l =
    let q = v / k in let r = v % k in
    let d : q * k + r ≡ v = div-add-mod' v k in
    let below : q < m = div_below v k m p l in
    let j = m - suc q in
    let sum : m ≡ suc q + j = omega arith in
    let times : m * k ≡ (suc q + j) * k = ap (λ x. x * k) sum in
    let small : r < k = omega arith in
    let e : m * k - suc v ≡ j * k + (k - suc r) = omega arith in
    ap (λ n. n / k) e ∙ div-mul-add j k (k - suc r) (omega arith)

count_is : (y : ℤ) (w : ℕ) → Reads y w → shift_count y ≡ w % 32
count_is y w b = ap (λ n. n % 32) (word_is y w b)

module _ (flags : ℕ) (x y : ℤ) (v w : ℕ) (a : Reads x v) (b : Reads y w) where
  pub left_reads : Reads (int_shl w32 x (shift_count y)) (shifted_by flags lsl v w)
  left_reads =
      let e = word_is x v a in let n = count_is y w b in
      let u = v * 2 ^ (w % 32) % 4294967296 in
      let l = a.1 in
      let is : shifted_by flags lsl v w ≡ u = shifted_is flags lsl v w u (λ z. rw z (omega arith)) refl in
      ((λ i. cast_signed w32 (e i * 2 ^ n i % 4294967296)) ∙ ap (cast_signed w32) (sym is), rw is (omega arith))

  pub right_reads : Reads (cast_signed w32 (cast_unsigned w32 x / 2 ^ shift_count y)) (shifted_by flags lsr v w)
  right_reads =
      let e = word_is x v a in let n = count_is y w b in
      let u = v / 2 ^ (w % 32) in
      let l = a.1 in
      let is : shifted_by flags lsr v w ≡ u = shifted_is flags lsr v w u (λ z. rw z (omega arith)) refl in
      ((λ i. cast_signed w32 (e i / 2 ^ n i)) ∙ ap (cast_signed w32) (sym is), rw is (omega (arith, div-le_self v (2 ^ (w % 32)))))

  -- the word of a shift that copies the sign
  abbrev signed_shift : ℕ
  signed_shift = v / 2 ^ (w % 32) + sign v * (2 ^ 32 - 2 ^ (32 - w % 32))

  signed_shift_is : shifted_by flags asr v w ≡ signed_shift
  signed_shift_is =
      let k = w % 32 in
      let m : min k 32 ≡ k = omega arith in
      let s : sign v ≤ 1 = (let l = a.1 in omega arith) in
      shifted_is flags asr v w signed_shift (λ z. rw z (omega arith)) (ap (λ n. v / 2 ^ n + sign v * (2 ^ 32 - 2 ^ (32 - n))) m)

  shift_low : v < 2 ^ 31 → cast_unsigned w32 (int_shr x (w % 32)) ≡ signed_shift
  shift_low l =
      let z : sign v ≡ 0 = omega arith in
      ap (λ q. cast_unsigned w32 (int_shr q (w % 32))) (a.0 ∙ signed_low v l) ∙ (let e : v / 2 ^ (w % 32) ≡ v / 2 ^ (w % 32) + 0 * (2 ^ 32 - 2 ^ (32 - w % 32)) = omega arith in e ∙ ap (λ q. v / 2 ^ (w % 32) + q * (2 ^ 32 - 2 ^ (32 - w % 32))) (sym z))

  shift_high : 2 ^ 31 ≤ v → cast_unsigned w32 (int_shr x (w % 32)) ≡ signed_shift
  shift_high l =
      let n = w % 32 in
      let m = 2 ^ (32 - n) in let k = 2 ^ n in
      let z : sign v ≡ 1 = (let u = a.1 in omega arith) in
      let whole : m * k ≡ 4294967296 = sym (pow-add 2 (32 - n) n) ∙ (let e : 32 - n + n ≡ 32 = omega arith in ap (λ j. 2 ^ j) e) in
      let some = pow_pos n in
      let u = a.1 in
      let below : v < m * k = omega arith in
      let c : (m * k - suc v) / k ≡ m - suc (v / k) = complement v m k some below in
      let c' : (4294967296 - suc v) / k ≡ m - suc (v / k) = ap (λ j. (j - suc v) / k) (sym whole) ∙ c in
      let q : v / k < m = div_below v k m some below in
      let f : m * 1 ≤ m * k = mul-le-mul_left m some in
      ap (λ q. cast_unsigned w32 (int_shr q n)) (a.0 ∙ signed_high v l)
      ∙ (ap (λ j. 4294967296 - suc j) c' ∙ (let e : 4294967296 - suc (m - suc (v / k)) ≡ v / k + 1 * (4294967296 - m) = omega arith in e ∙ ap (λ q. v / k + q * (4294967296 - m)) (sym z)))

  pub signed_reads : Reads (int_shr x (shift_count y)) (shifted_by flags asr v w)
  signed_reads =
      let n = count_is y w b in
      let fits : FitsSigned w32 (int_shr x (w % 32)) = record { sfits = omega (arith, mag_shr x (2 ^ (w % 32)), (fits_read x v a).sfits) } in
      let e : cast_unsigned w32 (int_shr x (w % 32)) ≡ signed_shift = ⊎_elim (λ l. shift_low l) (λ l. shift_high l) (which v (2 ^ 31)) in
      let small : cast_unsigned w32 (int_shr x (w % 32)) < 2 ^ 32 = unsigned_small (int_shr x (w % 32)) fits in
      subst (λ j. Reads (int_shr x j) (shifted_by flags asr v w)) (sym n)
      (reads_of (int_shr x (w % 32)) (shifted_by flags asr v w) fits (e ∙ sym signed_shift_is) (subst (λ j. j < 2 ^ 32) (e ∙ sym signed_shift_is) small))

opposite_small : (n : ℕ) → cast_unsigned w32 (neg_ℤ (pos n)) < 2 ^ 32
opposite_small zero = omega arith
opposite_small (suc n) = omega arith

-- quotients and remainders
quotient_fits : (x y : ℤ) → FitsSigned w32 x → FitsSigned w32 (quotient x y)
quotient_fits x y f = by (int_eq y (pos 0)) refl
  where
    small : (x y : ℤ) → FitsSigned w32 x → cast_unsigned w32 (int_div x y) < 2 ^ 32
    small (pos a) (pos b) f = omega (arith, div-le_self a b, f.sfits)
    small (negsuc a) (negsuc b) f = omega (arith, div-le_self (suc a) (suc b), f.sfits)
    small (pos a) (negsuc b) f = opposite_small (a / suc b)
    small (negsuc a) (pos b) f = opposite_small (suc a / b)

    by : (t : Bool) → int_eq y (pos 0) ≡ t → FitsSigned w32 (if t then pos 0 else int_wrapping_div w32 x y)
    by true e = record { sfits = omega arith }
    by false e = fits_cast (cast_unsigned w32 (int_div x y)) (small x y f)

remainder_fits : (x y : ℤ) → FitsSigned w32 x → FitsSigned w32 (remainder x y)
remainder_fits x y f = by (int_eq y (pos 0)) refl
  where
    by : (t : Bool) → int_eq y (pos 0) ≡ t → FitsSigned w32 (if t then pos 0 else int_rem x y)
    by true e = record { sfits = omega arith }
    by false e = record { sfits = omega (arith, mag_rem x y, f.sfits) }

module _ (x y : ℤ) (v w : ℕ) (a : Reads x v) (b : Reads y w) where
  pub quotient_reads : Reads (values.quotient x y) (cast_unsigned w32 (quotient (cast_signed w32 v) (cast_signed w32 w)))
  quotient_reads =
      let f = quotient_fits x y (fits_read x v a) in
      let e : cast_unsigned w32 (quotient x y) ≡ cast_unsigned w32 (quotient (cast_signed w32 v) (cast_signed w32 w)) = λ i. cast_unsigned w32 (quotient (a.0 i) (b.0 i)) in
      reads_of (quotient x y) _ f e (subst (λ n. n < 2 ^ 32) e (unsigned_small (quotient x y) f))

  pub remainder_reads : Reads (values.remainder x y) (cast_unsigned w32 (remainder (cast_signed w32 v) (cast_signed w32 w)))
  remainder_reads =
      let f = remainder_fits x y (fits_read x v a) in
      let e : cast_unsigned w32 (remainder x y) ≡ cast_unsigned w32 (remainder (cast_signed w32 v) (cast_signed w32 w)) = λ i. cast_unsigned w32 (remainder (a.0 i) (b.0 i)) in
      reads_of (remainder x y) _ f e (subst (λ n. n < 2 ^ 32) e (unsigned_small (remainder x y) f))

-- prefix operators
module _ (x : ℤ) (v : ℕ) (a : Reads x v) where
  pub zero_reads : Reads (pos 0) 0
  zero_reads = (refl, omega arith)

  pub negative_reads : Reads (to_int32 (pos 0 -ℤ x)) (sum_of 0 (inverted v) 1)
  negative_reads = difference_reads (pos 0) x 0 v zero_reads a

  pub inverted_reads : Reads (int_bit_not w32 x) (inverted v)
  inverted_reads =
      let e = word_is x v a in let l = a.1 in
      (ap (λ n. cast_signed w32 (4294967295 - n)) e, omega arith)

  pub more_reads : Reads (to_int32 (x +ℤ pos 1)) (sum_of v 1 0)
  more_reads = sum_reads x (pos 1) v 1 a (refl, omega arith)

  -- one less: minus 1 is what is added
  pub less_reads : Reads (to_int32 (x +ℤ negsuc 0)) (sum_of v (inverted 1) 1)
  less_reads =
      let r = sum_reads x (negsuc 0) v 4294967295 a (refl, omega arith) in
      let e : sum_of v 4294967295 0 ≡ sum_of v (inverted 1) 1 = ap (λ n. n % 4294967296) (omega arith) in
      subst (Reads (to_int32 (x +ℤ negsuc 0))) e r

-- an answer of the world, modulo 2^32
far_below : (n : ℕ) → (n / 4294967296 + 1) * 4294967296 - suc n ≡ 4294967295 - n % 4294967296
far_below n = omega arith

pub answer_reads : (z : ℤ) → Reads (to_int32 z) (number_word z)
unfolding int_wrap
answer_reads (pos n) = (
  ap (λ r. cast_signed w32 (unsigned_abs r)) (int_rem_euclid_is (pos n) (pos 4294967296) 4294967296 0 n (omega arith) refl (omega (arith, ints))),
  omega arith,
)
answer_reads (negsuc n) =
    let k = n / 4294967296 + 1 in
    let m = k * 4294967296 - suc n in
    let b = far_below n in
    let small : m % 4294967296 ≡ 4294967295 - n % 4294967296 = omega arith in (
      ap (λ r. cast_signed w32 (unsigned_abs r)) (int_rem_euclid_is (negsuc n) (pos 4294967296) 4294967296 k m (omega arith) refl (omega (arith, ints))) ∙ ap (cast_signed w32) small,
      omega arith,
    )

-- the word of a number of 32 bits
pub fitting_word : (z : ℤ) → FitsSigned w32 z → cast_unsigned w32 z ≡ number_word z
fitting_word (pos n) f = let l : n < 2 ^ 31 = f.sfits in omega arith
fitting_word (negsuc n) f = let l : n < 2 ^ 31 = f.sfits in omega arith
