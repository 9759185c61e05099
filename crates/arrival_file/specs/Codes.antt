-- The number that is printed for a code.
use Rattle.std.specs.Prelude.{ℕ}
use Rattle.arrival_file.specs.declared.arrival.ArrivalCode.{ArrivalCode}
use Rattle.arrival_file.specs.declared.arrival.ArrivalCode.TheVariants.{NotJson, NotArrivals, OutOfOrder, TooMany}

abbrev pub number_of : ArrivalCode → ℕ
number_of NotJson = 1
number_of NotArrivals = 2
number_of OutOfOrder = 3
number_of TooMany = 4
