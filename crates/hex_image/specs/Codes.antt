-- The codes by their numbers.
use Rattle.std.specs.Prelude.{ℕ}
use Rattle.hex_image.specs.declared.refused.HexCode.{HexCode}
use Rattle.hex_image.specs.declared.refused.HexCode.TheVariants.{BadLine, BadSum, BadType, Overlap, PastFlash, NoEnd, AfterEnd}

-- the number that a code is told by
abbrev pub number_of : HexCode → ℕ
number_of BadLine = 1
number_of BadSum = 2
number_of BadType = 3
number_of Overlap = 4
number_of PastFlash = 5
number_of NoEnd = 6
number_of AfterEnd = 7
