-- The bytes of a text. Past its end a text reads as 0, which is in no class.
use Rattle.std.specs.Prelude.{◌≡◌, ℕ, Bool, ◌||◌, ◌==◌, ◌+◌, ◌<◌, ◌≤◌, List, length, slice_index, slice_range, IsTrue}
use Rattle.std.specs.Char.{is_ascii_alphabetic, is_ascii_digit}

-- the most bytes of a text
abbrev pub most_bytes : ℕ
most_bytes = 65536

-- space, tab, line feed and carriage return (own: ECMA-262, sections 12.2 and 12.3, has more of them)
abbrev pub is_blank : ℕ → Bool
is_blank byte = ((byte == 32) || (byte == 9)) || ((byte == 10) || (byte == 13))

-- a line break: line feed or carriage return (ECMA-262, section 12.3, without U+2028 and U+2029)
abbrev pub is_break : ℕ → Bool
is_break byte = (byte == 10) || (byte == 13)

-- what a name begins with: a letter, `_` or `$` (IdentifierStart of ECMA-262, section 12.7, in ASCII)
abbrev pub begins_name : ℕ → Bool
begins_name byte = is_ascii_alphabetic byte || ((byte == 95) || (byte == 36))

-- what a name goes on with (IdentifierPart of ECMA-262, section 12.7, in ASCII)
abbrev pub goes_on_name : ℕ → Bool
goes_on_name byte = begins_name byte || is_ascii_digit byte

-- what a text literal opens with: `"`, `'` or a backquote
abbrev pub is_quote : ℕ → Bool
is_quote byte = (byte == 34) || ((byte == 39) || (byte == 96))

-- each byte from i up to j passes the test
abbrev pub Each : (ℕ → Bool) → List ℕ → ℕ → ℕ → Type 0
Each test text i j = (k : ℕ) → i ≤ k → k < j → IsTrue (test (slice_index text k))

-- some byte from i up to j passes the test
abbrev pub SomeByte : (ℕ → Bool) → List ℕ → ℕ → ℕ → Type 0
SomeByte test text i j = (k : ℕ) × (i ≤ k) × (k < j) × IsTrue (test (slice_index text k))

-- some bytes stand from i up to j, and all of them pass the test
abbrev pub IsRun : (ℕ → Bool) → List ℕ → ℕ → ℕ → Type 0
IsRun test text i j = (i < j) × (j ≤ length text) × Each test text i j

-- the bytes from i up to j are these
abbrev pub Stands : List ℕ → List ℕ → ℕ → ℕ → Type 0
Stands text bytes i j = (slice_range text i j ≡ bytes) × (j ≡ i + length bytes)
