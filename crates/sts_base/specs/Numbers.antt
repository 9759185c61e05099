-- The numbers of the codes.
use Rattle.std.specs.Prelude.{ℕ}
use Rattle.sts_base.specs.declared.refused.Code.{Code}
use Rattle.sts_base.specs.declared.refused.Code.TheVariants.{TextTooLong, NotUtf8, BadCharacter, BadNumber, BadText, Syntax, TooDeep, UnknownName, TwiceNamed, Captures, Mismatch, NeedsType, BadHandler, ClassCycle, OverLimit}

-- the number that is printed for a code
abbrev pub number_of : Code → ℕ
number_of TextTooLong = 1
number_of NotUtf8 = 2
number_of BadCharacter = 3
number_of BadNumber = 4
number_of BadText = 5
number_of Syntax = 6
number_of TooDeep = 7
number_of UnknownName = 8
number_of TwiceNamed = 9
number_of Captures = 10
number_of Mismatch = 11
number_of NeedsType = 12
number_of BadHandler = 13
number_of ClassCycle = 14
number_of OverLimit = 15
