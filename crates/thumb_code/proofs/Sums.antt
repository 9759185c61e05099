-- The flags of a sum in the manual's words: AddWithCarry adds the words as numbers without and with signs.
use Rattle.std.proofs.Common.{◌≡◌, ◌≢◌, ℕ, ◌^◌, ◌<◌, true, false, pos, ◌+ℤ◌, arith}
use Rattle.std.specs.Int.{cast_signed, w32}
use Rattle.std.proofs.lemmas.Int.{ints}
use Rattle.std.proofs.lemmas.Bool.Decides.{nat_tests}
use Rattle.thumb_code.specs.Arithmetic.{sum_of, overflows}

-- V is clear exactly where the result with a sign is the sum with signs
pub overflows-signed : (x y c : ℕ) → x < 2 ^ 32 → y < 2 ^ 32 → c < 2 → overflows x y (sum_of x y c) ≡ false → cast_signed w32 (sum_of x y c) ≡ cast_signed w32 x +ℤ cast_signed w32 y +ℤ pos c
overflows-signed x y c p q r e = grind (arith, ints, nat_tests)

pub signed-overflows : (x y c : ℕ) → x < 2 ^ 32 → y < 2 ^ 32 → c < 2 → overflows x y (sum_of x y c) ≡ true → cast_signed w32 (sum_of x y c) ≢ cast_signed w32 x +ℤ cast_signed w32 y +ℤ pos c
signed-overflows x y c p q r e = λ h. grind (arith, ints, nat_tests)
