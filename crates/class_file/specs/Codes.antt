-- The number that is printed for a code.
use Rattle.std.specs.Prelude.{ℕ}
use Rattle.class_file.specs.declared.class.ClassCode.{ClassCode}
use Rattle.class_file.specs.declared.class.ClassCode.TheVariants.{NotJson, NotClass, BadCount, EndDiffers}

abbrev pub number_of : ClassCode → ℕ
number_of NotJson = 1
number_of NotClass = 2
number_of BadCount = 3
number_of EndDiffers = 4
