-- The digits of bytes.
use Rattle.std.proofs.Common.{◌≡◌, ℕ, List, [], ◌∷◌, ◌*◌, length, refl, arith}
use Rattle.std.specs.List.{flat_map}
use Rattle.pointed_line.specs.Columns.{byte_digits}

pub length-digits : (bytes : List ℕ) → length (flat_map byte_digits bytes) ≡ 4 * length bytes
length-digits [] = refl
length-digits (byte ∷ bytes) = let more = length-digits bytes in omega arith
