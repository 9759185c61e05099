-- When a script is sound, and what a script that was read keeps to besides.
use Rattle.std.specs.Prelude.{◌≤◌, ◌≤ℤ◌, pos, length, All}
use Rattle.board_world.specs.Board.{IsSoundScript}
use Rattle.event_script.specs.declared.script.Act.{Act}
use Rattle.event_script.specs.declared.script.Act.TheVariants.{Raise}
use Rattle.event_script.specs.declared.script.Script.{Script}
use Rattle.event_script.specs.Limits.{entry_limit, greatest_number}
use Rattle.event_script.specs.World.{world_entries}

-- the script of the board's world that it is, is sound there: order, end, buttons and ports
abbrev pub IsSound : Script → Type 0
IsSound s = IsSoundScript s.end (world_entries s.entries)

-- the source and value of an event have 16 bits
abbrev pub HasSmallNumbers : Act → Type 0
HasSmallNumbers (Raise event) =
    (pos 0 ≤ℤ event.source) × (event.source ≤ℤ pos greatest_number) × (pos 0 ≤ℤ event.value)
    × (event.value ≤ℤ pos greatest_number)
HasSmallNumbers _ = Unit {0}

-- what the form of a file sets, and soundness doesn't ask
pub record IsWithinForm (s : Script) : Type 0 where
  pub few : length s.entries ≤ entry_limit
  pub numbers : All (λ e. HasSmallNumbers e.act) s.entries
