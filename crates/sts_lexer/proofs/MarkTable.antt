-- Each mark stands in the table of marks, behind the longer ones, and no two have the same bytes.
use Rattle.std.proofs.Common.{◌≡◌, ℕ, ◌<◌, Bool, true, false, cond, List, [], ◌∷◌, refl, sym, ap, ◌∙◌, lit<}
use Rattle.std.specs.Prelude.{Option, Some, None, IsTrue, not, ◌&&◌, ◌==◌, if◌then◌else◌, nat_le, nat_lt, slice_get, slice_index, length}
use Rattle.std.specs.Str.{bytes_eq}
use Rattle.std.proofs.lemmas.Option.{same_Some}
use Rattle.sts_lexer.specs.Bytes.{goes_on_name, is_quote, is_blank}
use Rattle.sts_lexer.specs.Marks.{mark_bytes}
use Rattle.sts_lexer.specs.declared.marks.Mark.{Mark}
use Rattle.sts_lexer.specs.declared.marks.Mark.TheVariants as mark
use Rattle.sts_lexer.specs.inner.{marks_beginning}

-- the table of marks, the longer ones first
abbrev pub MARKS : List Mark
MARKS =
    mark.UnsignedShiftRightAssign ∷ mark.ShiftLeftAssign ∷ mark.ShiftRightAssign ∷ mark.StrictEqual ∷ mark.StrictNotEqual ∷ mark.UnsignedShiftRight ∷ mark.Arrow ∷
    mark.PlusAssign ∷ mark.MinusAssign ∷ mark.StarAssign ∷ mark.SlashAssign ∷ mark.PercentAssign ∷ mark.AmpersandAssign ∷ mark.BarAssign ∷
    mark.CaretAssign ∷ mark.Equal ∷ mark.NotEqual ∷ mark.LessEqual ∷ mark.GreaterEqual ∷ mark.AmpersandAmpersand ∷ mark.BarBar ∷
    mark.ShiftLeft ∷ mark.ShiftRight ∷ mark.PlusPlus ∷ mark.MinusMinus ∷ mark.OpenBrace ∷ mark.CloseBrace ∷ mark.OpenParenthesis ∷
    mark.CloseParenthesis ∷ mark.OpenBracket ∷ mark.CloseBracket ∷ mark.Semicolon ∷ mark.Comma ∷ mark.Dot ∷ mark.Colon ∷
    mark.Question ∷ mark.Assign ∷ mark.Less ∷ mark.Greater ∷ mark.Plus ∷ mark.Minus ∷ mark.Star ∷
    mark.Slash ∷ mark.Percent ∷ mark.Ampersand ∷ mark.Bar ∷ mark.Caret ∷ mark.Tilde ∷ mark.Exclamation ∷ []

-- where a mark stands in the table
abbrev pub place_of : Mark → ℕ
place_of mark.OpenBrace = 25
place_of mark.CloseBrace = 26
place_of mark.OpenParenthesis = 27
place_of mark.CloseParenthesis = 28
place_of mark.OpenBracket = 29
place_of mark.CloseBracket = 30
place_of mark.Semicolon = 31
place_of mark.Comma = 32
place_of mark.Dot = 33
place_of mark.Colon = 34
place_of mark.Question = 35
place_of mark.Arrow = 6
place_of mark.Assign = 36
place_of mark.PlusAssign = 7
place_of mark.MinusAssign = 8
place_of mark.StarAssign = 9
place_of mark.SlashAssign = 10
place_of mark.PercentAssign = 11
place_of mark.AmpersandAssign = 12
place_of mark.BarAssign = 13
place_of mark.CaretAssign = 14
place_of mark.ShiftLeftAssign = 1
place_of mark.ShiftRightAssign = 2
place_of mark.UnsignedShiftRightAssign = 0
place_of mark.Equal = 15
place_of mark.NotEqual = 16
place_of mark.StrictEqual = 3
place_of mark.StrictNotEqual = 4
place_of mark.Less = 37
place_of mark.Greater = 38
place_of mark.LessEqual = 17
place_of mark.GreaterEqual = 18
place_of mark.Plus = 39
place_of mark.Minus = 40
place_of mark.Star = 41
place_of mark.Slash = 42
place_of mark.Percent = 43
place_of mark.Ampersand = 44
place_of mark.Bar = 45
place_of mark.Caret = 46
place_of mark.Tilde = 47
place_of mark.Exclamation = 48
place_of mark.AmpersandAmpersand = 19
place_of mark.BarBar = 20
place_of mark.ShiftLeft = 21
place_of mark.ShiftRight = 22
place_of mark.UnsignedShiftRight = 5
place_of mark.PlusPlus = 23
place_of mark.MinusMinus = 24

pub placed : (mark : Mark) → slice_get MARKS (place_of mark) ≡ Some mark
placed mark.OpenBrace = refl
placed mark.CloseBrace = refl
placed mark.OpenParenthesis = refl
placed mark.CloseParenthesis = refl
placed mark.OpenBracket = refl
placed mark.CloseBracket = refl
placed mark.Semicolon = refl
placed mark.Comma = refl
placed mark.Dot = refl
placed mark.Colon = refl
placed mark.Question = refl
placed mark.Arrow = refl
placed mark.Assign = refl
placed mark.PlusAssign = refl
placed mark.MinusAssign = refl
placed mark.StarAssign = refl
placed mark.SlashAssign = refl
placed mark.PercentAssign = refl
placed mark.AmpersandAssign = refl
placed mark.BarAssign = refl
placed mark.CaretAssign = refl
placed mark.ShiftLeftAssign = refl
placed mark.ShiftRightAssign = refl
placed mark.UnsignedShiftRightAssign = refl
placed mark.Equal = refl
placed mark.NotEqual = refl
placed mark.StrictEqual = refl
placed mark.StrictNotEqual = refl
placed mark.Less = refl
placed mark.Greater = refl
placed mark.LessEqual = refl
placed mark.GreaterEqual = refl
placed mark.Plus = refl
placed mark.Minus = refl
placed mark.Star = refl
placed mark.Slash = refl
placed mark.Percent = refl
placed mark.Ampersand = refl
placed mark.Bar = refl
placed mark.Caret = refl
placed mark.Tilde = refl
placed mark.Exclamation = refl
placed mark.AmpersandAmpersand = refl
placed mark.BarBar = refl
placed mark.ShiftLeft = refl
placed mark.ShiftRight = refl
placed mark.UnsignedShiftRight = refl
placed mark.PlusPlus = refl
placed mark.MinusMinus = refl

pub in_table : (mark : Mark) → place_of mark < 49
in_table mark.OpenBrace = lit< tt
in_table mark.CloseBrace = lit< tt
in_table mark.OpenParenthesis = lit< tt
in_table mark.CloseParenthesis = lit< tt
in_table mark.OpenBracket = lit< tt
in_table mark.CloseBracket = lit< tt
in_table mark.Semicolon = lit< tt
in_table mark.Comma = lit< tt
in_table mark.Dot = lit< tt
in_table mark.Colon = lit< tt
in_table mark.Question = lit< tt
in_table mark.Arrow = lit< tt
in_table mark.Assign = lit< tt
in_table mark.PlusAssign = lit< tt
in_table mark.MinusAssign = lit< tt
in_table mark.StarAssign = lit< tt
in_table mark.SlashAssign = lit< tt
in_table mark.PercentAssign = lit< tt
in_table mark.AmpersandAssign = lit< tt
in_table mark.BarAssign = lit< tt
in_table mark.CaretAssign = lit< tt
in_table mark.ShiftLeftAssign = lit< tt
in_table mark.ShiftRightAssign = lit< tt
in_table mark.UnsignedShiftRightAssign = lit< tt
in_table mark.Equal = lit< tt
in_table mark.NotEqual = lit< tt
in_table mark.StrictEqual = lit< tt
in_table mark.StrictNotEqual = lit< tt
in_table mark.Less = lit< tt
in_table mark.Greater = lit< tt
in_table mark.LessEqual = lit< tt
in_table mark.GreaterEqual = lit< tt
in_table mark.Plus = lit< tt
in_table mark.Minus = lit< tt
in_table mark.Star = lit< tt
in_table mark.Slash = lit< tt
in_table mark.Percent = lit< tt
in_table mark.Ampersand = lit< tt
in_table mark.Bar = lit< tt
in_table mark.Caret = lit< tt
in_table mark.Tilde = lit< tt
in_table mark.Exclamation = lit< tt
in_table mark.AmpersandAmpersand = lit< tt
in_table mark.BarBar = lit< tt
in_table mark.ShiftLeft = lit< tt
in_table mark.ShiftRight = lit< tt
in_table mark.UnsignedShiftRight = lit< tt
in_table mark.PlusPlus = lit< tt
in_table mark.MinusMinus = lit< tt

-- the first mark of a table that has these bytes
abbrev pub mark_of : List Mark → List ℕ → Option Mark
mark_of [] bytes = None
mark_of (mark ∷ rest) bytes = cond (bytes_eq (mark_bytes mark) bytes) (Some mark) (mark_of rest bytes)

found : (mark : Mark) → mark_of MARKS (mark_bytes mark) ≡ Some mark
found mark.OpenBrace = refl
found mark.CloseBrace = refl
found mark.OpenParenthesis = refl
found mark.CloseParenthesis = refl
found mark.OpenBracket = refl
found mark.CloseBracket = refl
found mark.Semicolon = refl
found mark.Comma = refl
found mark.Dot = refl
found mark.Colon = refl
found mark.Question = refl
found mark.Arrow = refl
found mark.Assign = refl
found mark.PlusAssign = refl
found mark.MinusAssign = refl
found mark.StarAssign = refl
found mark.SlashAssign = refl
found mark.PercentAssign = refl
found mark.AmpersandAssign = refl
found mark.BarAssign = refl
found mark.CaretAssign = refl
found mark.ShiftLeftAssign = refl
found mark.ShiftRightAssign = refl
found mark.UnsignedShiftRightAssign = refl
found mark.Equal = refl
found mark.NotEqual = refl
found mark.StrictEqual = refl
found mark.StrictNotEqual = refl
found mark.Less = refl
found mark.Greater = refl
found mark.LessEqual = refl
found mark.GreaterEqual = refl
found mark.Plus = refl
found mark.Minus = refl
found mark.Star = refl
found mark.Slash = refl
found mark.Percent = refl
found mark.Ampersand = refl
found mark.Bar = refl
found mark.Caret = refl
found mark.Tilde = refl
found mark.Exclamation = refl
found mark.AmpersandAmpersand = refl
found mark.BarBar = refl
found mark.ShiftLeft = refl
found mark.ShiftRight = refl
found mark.UnsignedShiftRight = refl
found mark.PlusPlus = refl
found mark.MinusMinus = refl

-- and among those that begin as it does
pub found_from : (mark : Mark) → mark_of (marks_beginning (slice_index (mark_bytes mark) 0)) (mark_bytes mark) ≡ Some mark
found_from mark.OpenBrace = refl
found_from mark.CloseBrace = refl
found_from mark.OpenParenthesis = refl
found_from mark.CloseParenthesis = refl
found_from mark.OpenBracket = refl
found_from mark.CloseBracket = refl
found_from mark.Semicolon = refl
found_from mark.Comma = refl
found_from mark.Dot = refl
found_from mark.Colon = refl
found_from mark.Question = refl
found_from mark.Arrow = refl
found_from mark.Assign = refl
found_from mark.PlusAssign = refl
found_from mark.MinusAssign = refl
found_from mark.StarAssign = refl
found_from mark.SlashAssign = refl
found_from mark.PercentAssign = refl
found_from mark.AmpersandAssign = refl
found_from mark.BarAssign = refl
found_from mark.CaretAssign = refl
found_from mark.ShiftLeftAssign = refl
found_from mark.ShiftRightAssign = refl
found_from mark.UnsignedShiftRightAssign = refl
found_from mark.Equal = refl
found_from mark.NotEqual = refl
found_from mark.StrictEqual = refl
found_from mark.StrictNotEqual = refl
found_from mark.Less = refl
found_from mark.Greater = refl
found_from mark.LessEqual = refl
found_from mark.GreaterEqual = refl
found_from mark.Plus = refl
found_from mark.Minus = refl
found_from mark.Star = refl
found_from mark.Slash = refl
found_from mark.Percent = refl
found_from mark.Ampersand = refl
found_from mark.Bar = refl
found_from mark.Caret = refl
found_from mark.Tilde = refl
found_from mark.Exclamation = refl
found_from mark.AmpersandAmpersand = refl
found_from mark.BarBar = refl
found_from mark.ShiftLeft = refl
found_from mark.ShiftRight = refl
found_from mark.UnsignedShiftRight = refl
found_from mark.PlusPlus = refl
found_from mark.MinusMinus = refl

pub same_mark : (mark mark' : Mark) → mark_bytes mark ≡ mark_bytes mark' → mark ≡ mark'
same_mark mark mark' e = same_Some mark mark' (sym (found mark) ∙ ap (λ bytes. mark_of MARKS bytes) e ∙ found mark')

-- what a mark begins with: no name, number, text or white space begins so
abbrev pub begins_mark : ℕ → Bool
begins_mark byte = not (goes_on_name byte) && (not (is_quote byte) && (not (is_blank byte) && nat_lt 0 byte))

pub mark_begins : (mark : Mark) → IsTrue (begins_mark (slice_index (mark_bytes mark) 0))
mark_begins mark.OpenBrace = refl
mark_begins mark.CloseBrace = refl
mark_begins mark.OpenParenthesis = refl
mark_begins mark.CloseParenthesis = refl
mark_begins mark.OpenBracket = refl
mark_begins mark.CloseBracket = refl
mark_begins mark.Semicolon = refl
mark_begins mark.Comma = refl
mark_begins mark.Dot = refl
mark_begins mark.Colon = refl
mark_begins mark.Question = refl
mark_begins mark.Arrow = refl
mark_begins mark.Assign = refl
mark_begins mark.PlusAssign = refl
mark_begins mark.MinusAssign = refl
mark_begins mark.StarAssign = refl
mark_begins mark.SlashAssign = refl
mark_begins mark.PercentAssign = refl
mark_begins mark.AmpersandAssign = refl
mark_begins mark.BarAssign = refl
mark_begins mark.CaretAssign = refl
mark_begins mark.ShiftLeftAssign = refl
mark_begins mark.ShiftRightAssign = refl
mark_begins mark.UnsignedShiftRightAssign = refl
mark_begins mark.Equal = refl
mark_begins mark.NotEqual = refl
mark_begins mark.StrictEqual = refl
mark_begins mark.StrictNotEqual = refl
mark_begins mark.Less = refl
mark_begins mark.Greater = refl
mark_begins mark.LessEqual = refl
mark_begins mark.GreaterEqual = refl
mark_begins mark.Plus = refl
mark_begins mark.Minus = refl
mark_begins mark.Star = refl
mark_begins mark.Slash = refl
mark_begins mark.Percent = refl
mark_begins mark.Ampersand = refl
mark_begins mark.Bar = refl
mark_begins mark.Caret = refl
mark_begins mark.Tilde = refl
mark_begins mark.Exclamation = refl
mark_begins mark.AmpersandAmpersand = refl
mark_begins mark.BarBar = refl
mark_begins mark.ShiftLeft = refl
mark_begins mark.ShiftRight = refl
mark_begins mark.UnsignedShiftRight = refl
mark_begins mark.PlusPlus = refl
mark_begins mark.MinusMinus = refl

-- no mark is longer than those before it in the table
abbrev pub at_most : ℕ → List Mark → Bool
at_most most [] = true
at_most most (mark ∷ rest) = nat_le (length (mark_bytes mark)) most && at_most most rest

abbrev pub falls : List Mark → Bool
falls [] = true
falls (mark ∷ rest) = at_most (length (mark_bytes mark)) rest && falls rest

pub table_falls : IsTrue (falls MARKS)
table_falls = refl

-- nor than those before it among the marks that begin with one byte
either_falls : (test : Bool) (first second : List Mark) → IsTrue (falls first) → IsTrue (falls second) → IsTrue (falls (if test then first else second))
either_falls true first second h g = h
either_falls false first second h g = g

pub beginnings_fall : (byte : ℕ) → IsTrue (falls (marks_beginning byte))
beginnings_fall byte =
    either_falls (byte == 33) _ _ refl
    (either_falls (byte == 37) _ _ refl
    (either_falls (byte == 38) _ _ refl
    (either_falls (byte == 40) _ _ refl
    (either_falls (byte == 41) _ _ refl
    (either_falls (byte == 42) _ _ refl
    (either_falls (byte == 43) _ _ refl
    (either_falls (byte == 44) _ _ refl
    (either_falls (byte == 45) _ _ refl
    (either_falls (byte == 46) _ _ refl
    (either_falls (byte == 47) _ _ refl
    (either_falls (byte == 58) _ _ refl
    (either_falls (byte == 59) _ _ refl
    (either_falls (byte == 60) _ _ refl
    (either_falls (byte == 61) _ _ refl
    (either_falls (byte == 62) _ _ refl
    (either_falls (byte == 63) _ _ refl
    (either_falls (byte == 91) _ _ refl
    (either_falls (byte == 93) _ _ refl
    (either_falls (byte == 94) _ _ refl
    (either_falls (byte == 123) _ _ refl
    (either_falls (byte == 124) _ _ refl
    (either_falls (byte == 125) _ _ refl
    (either_falls (byte == 126) _ _ refl
    refl)))))))))))))))))))))))
