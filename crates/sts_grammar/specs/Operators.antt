-- Operators: their marks, their numbers, and how tightly they bind (ECMA-262, sections 13.4 to 13.15).
use Rattle.std.specs.Prelude.{ℕ, ℤ, pos, negsuc, [], ◌∷◌, Option, Some, None, slice_index}
use Rattle.sts_lexer.specs.declared.marks.Mark.{Mark}
use Rattle.sts_lexer.specs.declared.marks.Mark.TheVariants as m

-- the number of the operator between two operands that a mark is
abbrev pub infix_number : Mark → Option ℕ
infix_number m.Bar = Some 1
infix_number m.Caret = Some 2
infix_number m.Ampersand = Some 3
infix_number m.Equal = Some 4
infix_number m.StrictEqual = Some 4
infix_number m.NotEqual = Some 5
infix_number m.StrictNotEqual = Some 5
infix_number m.Less = Some 6
infix_number m.Greater = Some 7
infix_number m.LessEqual = Some 8
infix_number m.GreaterEqual = Some 9
infix_number m.ShiftLeft = Some 10
infix_number m.ShiftRight = Some 11
infix_number m.UnsignedShiftRight = Some 12
infix_number m.Plus = Some 13
infix_number m.Minus = Some 14
infix_number m.Star = Some 15
infix_number m.Slash = Some 16
infix_number m.Percent = Some 17
infix_number mark = None

-- How tightly it binds, by its number: more tightly than `&&`, and less than a prefix operator (`Precedence.antt`).
abbrev pub infix_level : ℕ → ℕ
infix_level op = slice_index (0 ∷ 4 ∷ 5 ∷ 6 ∷ 7 ∷ 7 ∷ 8 ∷ 8 ∷ 8 ∷ 8 ∷ 9 ∷ 9 ∷ 9 ∷ 10 ∷ 10 ∷ 11 ∷ 11 ∷ 11 ∷ []) op

-- the number of the prefix operator that a mark is
abbrev pub prefix_number : Mark → Option ℕ
prefix_number m.Minus = Some 1
prefix_number m.Plus = Some 2
prefix_number m.Exclamation = Some 3
prefix_number m.Tilde = Some 4
prefix_number mark = None

-- what `++` and `--` add
abbrev pub bump_by : Mark → Option ℤ
bump_by m.PlusPlus = Some (pos 1)
bump_by m.MinusMinus = Some (negsuc 0)
bump_by mark = None

-- the operator of an assignment mark, which `=` lacks
abbrev pub assignment : Mark → Option (Option ℕ)
assignment m.Assign = Some None
assignment m.PlusAssign = Some (Some 13)
assignment m.MinusAssign = Some (Some 14)
assignment m.StarAssign = Some (Some 15)
assignment m.SlashAssign = Some (Some 16)
assignment m.PercentAssign = Some (Some 17)
assignment m.AmpersandAssign = Some (Some 3)
assignment m.BarAssign = Some (Some 1)
assignment m.CaretAssign = Some (Some 2)
assignment m.ShiftLeftAssign = Some (Some 10)
assignment m.ShiftRightAssign = Some (Some 11)
assignment m.UnsignedShiftRightAssign = Some (Some 12)
assignment mark = None
