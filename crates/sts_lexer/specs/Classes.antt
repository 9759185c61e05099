-- Classes of bytes that stand in runs.
use Rattle.std.specs.Prelude.{ℕ, Bool, not}
use Rattle.std.specs.Char.{is_ascii_digit, is_ascii_hexdigit}
use Rattle.sts_lexer.specs.Bytes.{is_break, goes_on_name}
use Rattle.sts_lexer.specs.declared.bytes.Class.{Class}
use Rattle.sts_lexer.specs.declared.bytes.Class.TheVariants as class

abbrev pub in_class : Class → ℕ → Bool
in_class class.Name byte = goes_on_name byte
in_class class.Digit byte = is_ascii_digit byte
in_class class.HexDigit byte = is_ascii_hexdigit byte
in_class class.Unbroken byte = not (is_break byte)
