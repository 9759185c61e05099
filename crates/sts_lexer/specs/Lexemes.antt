-- What bytes spell, before any table is known.
use Rattle.std.specs.Prelude.{◌≡◌, ℕ, Bool, false, not, ◌||◌, ◌&&◌, ◌==◌, ◌⊎◌, ◌+◌, ◌≤◌, List, [], ◌∷◌, slice_index, slice_range, Option, Some, None, IsTrue, if◌then◌else◌}
use Rattle.std.specs.Option.{option_map}
use Rattle.std.specs.Char.{is_ascii_digit, is_ascii_hexdigit}
use Rattle.std.specs.Str.Parse.{digits_value}
use Rattle.sts_lexer.specs.Bytes.{is_break, begins_name, goes_on_name, is_quote, IsRun, Stands}
use Rattle.sts_lexer.specs.Spaces.{opens_comment}
use Rattle.sts_lexer.specs.Marks.{mark_bytes}
use Rattle.sts_lexer.specs.declared.marks.Mark.{Mark}

-- A name or a reserved word stands from i up to j (IdentifierName of ECMA-262, section 12.7, in ASCII).
abbrev pub IsName : List ℕ → ℕ → ℕ → Type 0
IsName text i j = IsTrue (begins_name (slice_index text i)) × IsRun goes_on_name text i j

-- `0`, or decimal digits that don't begin with 0 (DecimalIntegerLiteral of ECMA-262, section 12.9.3)
abbrev pub IsDecimal : List ℕ → ℕ → ℕ → Type 0
IsDecimal text i j = IsRun is_ascii_digit text i j × (slice_index text i ≡ 48 → j ≡ i + 1)

-- `x` or `X`
abbrev pub IsX : ℕ → Type 0
IsX byte = (byte ≡ 120) ⊎ (byte ≡ 88)

-- `0x` or `0X`, and hexadecimal digits (HexIntegerLiteral of ECMA-262, section 12.9.3)
abbrev pub IsHex : List ℕ → ℕ → ℕ → Type 0
IsHex text i j =
    (slice_index text i ≡ 48) × IsX (slice_index text (i + 1)) × IsRun is_ascii_hexdigit text (i + 2) j

-- what may follow a number: neither a name's byte nor `.` (ECMA-262, section 12.9.3, for names and digits; `.` is own)
abbrev pub ends_number : ℕ → Bool
ends_number byte = not (goes_on_name byte || (byte == 46))

-- The digits from i up to j have this value, it is at most 4294967295, and the number ends there.
pub record IsValue (text : List ℕ) (radix value i j : ℕ) : Type 0 where
  pub is : value ≡ digits_value radix (slice_range text i j)
  pub fits : value ≤ 4294967295
  pub ends : IsTrue (ends_number (slice_index text j))

-- A number of this value stands from i up to j (NumericLiteral of ECMA-262, section 12.9.3, without floats).
abbrev pub IsNumber : List ℕ → ℕ → ℕ → ℕ → Type 0
IsNumber text value i j =
    (IsDecimal text i j × IsValue text 10 value i j) ⊎ (IsHex text i j × IsValue text 16 value (i + 2) j)

-- what a backslash and this byte stand for (SingleEscapeCharacter of ECMA-262, section 12.9.4, without b, f and v)
abbrev pub escaped : ℕ → Option ℕ
escaped byte =
    if byte == 110 then Some 10
    else (if byte == 114 then Some 13
    else (if byte == 116 then Some 9
    else (if (byte == 92) || is_quote byte then Some byte
    else None)))

-- One character inside quotes: the byte that it stands for and how many bytes it takes, by its first two bytes.
-- None: no character of such a text begins so.
--   A line break stands only in backquotes, where CR LF and CR are read as LF (ECMA-262, section 12.9.6).
--   `${` is refused in backquotes.
abbrev pub character : ℕ → ℕ → ℕ → Option (ℕ × ℕ)
character quote byte next =
    if byte == 92 then option_map (λ value. (value, 2)) (escaped next)
    else (if byte == quote then None
    else (if not (quote == 96) then (if is_break byte then None else Some (byte, 1))
    else (if byte == 13 then Some (10, if next == 10 then 2 else 1)
    else (if (byte == 36) && (next == 123) then None
    else Some (byte, 1)))))

-- The characters from i up to j stand for these bytes.
abbrev pub IsBody : List ℕ → ℕ → ℕ → List ℕ → ℕ → Type 0
IsBody text quote i [] j = i ≡ j
IsBody text quote i (byte ∷ bytes) j =
    (size : ℕ) × (character quote (slice_index text i) (slice_index text (i + 1)) ≡ Some (byte, size))
    × IsBody text quote (i + size) bytes j

-- A text literal whose characters stand for these bytes stands from i up to j: it closes with the quote that it opens
-- with (StringLiteral of ECMA-262, section 12.9.4, and NoSubstitutionTemplate, section 12.9.6).
pub record IsQuoted (text value : List ℕ) (i j : ℕ) : Type 0 where
  pub opens : IsTrue (is_quote (slice_index text i))
  pub close : ℕ
  pub body : IsBody text (slice_index text i) (i + 1) value close
  pub closes : slice_index text close ≡ slice_index text i
  pub ends : j ≡ close + 1

-- A mark stands from i up to j, and no comment opens there (Punctuator of ECMA-262, section 12.8).
abbrev pub IsMark : List ℕ → Mark → ℕ → ℕ → Type 0
IsMark text mark i j = Stands text (mark_bytes mark) i j × (opens_comment text i ≡ false)

-- What a token's bytes say: a name or reserved word with these bytes, a number or a text of this value, or a mark.
pub data Lexeme : Type 0 where
  name : (bytes : List ℕ) → Lexeme
  number : (value : ℕ) → Lexeme
  quoted : (value : List ℕ) → Lexeme
  mark : (which : Mark) → Lexeme

-- The bytes from i up to j spell a lexeme.
abbrev pub Spells : List ℕ → Lexeme → ℕ → ℕ → Type 0
Spells text (name bytes) i j = IsName text i j × (bytes ≡ slice_range text i j)
Spells text (number value) i j = IsNumber text value i j
Spells text (quoted value) i j = IsQuoted text value i j
Spells text (mark which) i j = IsMark text which i j

-- no longer lexeme begins at i
abbrev pub IsLongest : List ℕ → ℕ → ℕ → Type 0
IsLongest text i j = (lexeme : Lexeme) (end : ℕ) → Spells text lexeme i end → end ≤ j
