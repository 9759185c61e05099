-- Conversion to 32 bits.
use Rattle.std.specs.Prelude.{ℕ, ℤ, ◌%◌, ◌^◌}
use Rattle.std.specs.Int.{cast_signed, w32}

-- ToInt32 of a whole number that isn't negative (ECMA-262, section 7.1.6): the number modulo 2^32, less 2^32 where
-- that is 2^31 or more.
abbrev pub to_int32 : ℕ → ℤ
to_int32 number = cast_signed w32 (number % 2 ^ 32)
