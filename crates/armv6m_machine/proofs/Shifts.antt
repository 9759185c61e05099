-- Shifts by more places than a word has bits, and sums of what is shifted and what comes in.
use Rattle.std.proofs.Common.{◌≡◌, ℕ, ◌+◌, ◌*◌, ◌/◌, ◌%◌, ◌^◌, ◌-◌, ◌<◌, ◌≤◌, refl, sym, ap, ◌∙◌, arith}
use Rattle.std.proofs.lemmas.Nat.{pow-add, pow_pos}
use Rattle.std.proofs.Math.Nat.{pow-le-pow_right, div-eq_of_lt, div-lt_iff_lt-mul, mul-le-mul_right, add-mul}

split : (n k m : ℕ) → n ≡ k + m → 2 ^ n ≡ 2 ^ k * 2 ^ m
split n k m e = rw e (pow-add 2 k m)

multiple : (v n : ℕ) → 32 < n → v * 2 ^ n ≡ v * 2 ^ (n - 33) * 2 ^ 33
multiple v n h = rw (split n (n - 33) 33 (omega arith)) (omega arith)

pub lsl_far_value : (v n : ℕ) → 32 < n → v * 2 ^ n % 2 ^ 32 ≡ 0
lsl_far_value v n h = rw (multiple v n h) (omega arith)

pub lsl_far_carry : (v n : ℕ) → 32 < n → v * 2 ^ n / 2 ^ 32 % 2 ≡ 0
lsl_far_carry v n h = rw (multiple v n h) (omega arith)

far : (v n : ℕ) → v < 2 ^ 32 → 32 ≤ n → v / 2 ^ n ≡ 0
far v n b h = let p : 2 ^ 32 ≤ 2 ^ n = pow-le-pow_right (omega arith) h in div-eq_of_lt (omega arith)

pub lsr_far_value : (v n : ℕ) → v < 2 ^ 32 → 32 < n → v / 2 ^ n ≡ 0
lsr_far_value v n b h = far v n b (omega arith)

pub lsr_far_carry : (v n : ℕ) → v < 2 ^ 32 → 32 < n → v / 2 ^ (n - 1) % 2 ≡ 0
lsr_far_carry v n b h = rw (far v (n - 1) b (omega arith)) refl

pub power_fits : (n : ℕ) → 2 ^ (32 - n) ≤ 2 ^ 32
power_fits n = pow-le-pow_right (omega arith) {i = 32 - n} {j = 32} (omega arith)

-- A word shifted to the right leaves room for that many signs.
pub asr_fits : (v n : ℕ) → v < 2 ^ 32 → n ≤ 32 → v / 2 ^ n + (2 ^ 32 - 2 ^ (32 - n)) < 2 ^ 32
asr_fits v n b h =
    let e : 2 ^ 32 ≡ 2 ^ (32 - n) * 2 ^ n = split 32 (32 - n) n (omega arith) in
    let d : v / 2 ^ n < 2 ^ (32 - n) = (div-lt_iff_lt-mul (pow_pos n)).1 (omega arith) in
    let p = power_fits n in
    omega arith

rotation : (v p q : ℕ) → p * q ≡ 2 ^ 32 → 0 < p → v < 2 ^ 32 → v / p + v * q % 2 ^ 32 < 2 ^ 32
rotation v p q e z b =
    let d : v / p < q = (div-lt_iff_lt-mul z).1 (omega arith) in
    let m : v % p * q ≤ (p - 1) * q = mul-le-mul_right q (omega arith) in
    let s : v ≡ v / p * p + v % p = omega arith in
    let t : v * q ≡ (v / p * p + v % p) * q = ap (λ x. x * q) s in
    let u : (v / p * p + v % p) * q ≡ v / p * (p * q) + v % p * q = omega arith in
    let w : v * q ≡ v / p * 2 ^ 32 + v % p * q = rw (← e) (t ∙ u) in
    let f : p * q ≡ (p - 1) * q + 1 * q = ap (λ x. x * q) (let g : p ≡ p - 1 + 1 = omega arith in g) ∙ add-mul (p - 1) 1 q in
    omega arith

pub ror_fits : (v r : ℕ) → v < 2 ^ 32 → r ≤ 32 → v / 2 ^ r + v * 2 ^ (32 - r) % 2 ^ 32 < 2 ^ 32
ror_fits v r b h = rotation v (2 ^ r) (2 ^ (32 - r)) (sym (split 32 r (32 - r) (omega arith))) (pow_pos r) b
