-- The number that is printed for a code.
use Rattle.std.specs.Prelude.{ℕ}
use Rattle.event_script.specs.declared.script.ScriptCode.{ScriptCode}
use Rattle.event_script.specs.declared.script.ScriptCode.TheVariants.{NotJson, NotScript, OutOfOrder, PastEnd, TooMany}

abbrev pub number_of : ScriptCode → ℕ
number_of NotJson = 1
number_of NotScript = 2
number_of OutOfOrder = 3
number_of PastEnd = 4
number_of TooMany = 5
