-- The first halfwords of the held bytes, read once.
use Rattle.std.specs.Prelude.{◌≡◌, ℕ, ◌*◌, List, Bool, Option, Some, None, slice_index_or}
use Rattle.thumb_code.specs.declared.instructions.Instr.{Instr}
use Rattle.thumb_code.specs.Table.{Fits}
use Rattle.thumb_code.specs.Step.{Found, behind}
use Rattle.thumb_switch.specs.Space.{fetched_in}
use Rattle.thumb_switch.specs.Switching.{over}

-- What was read tells what is fetched there, whatever stands in the two other parts; nothing is told where nothing was read.
abbrev pub TellsFetch : List ℕ → ℕ → Option (Instr × Bool) → Type 0
TellsFetch code at None = Unit {0}
TellsFetch code at (Some x) =
    ((stack words : List ℕ) → fetched_in (over code stack words) at ≡ Found x.0 (behind at x.1)) × Fits x.0

-- each slot does, of the halfword at its place
abbrev pub AreRead : List ℕ → List (Option (Instr × Bool)) → Type 0
AreRead code slots = (place : ℕ) → TellsFetch code (2 * place) (slice_index_or slots place None)
