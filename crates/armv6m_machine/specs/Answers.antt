-- How the machine's answers show what the definitions say.
use Rattle.std.specs.Prelude.{◌≡◌, ℕ, ◌<◌, ◌≤◌, ◌⊎◌, Option, Some, None}
use Rattle.thumb_code.specs.Map.{flash_end, globals_at, ram_end}
use Rattle.thumb_code.specs.Faults.{undefined, unaligned, out_of_map, not_thumb, stack_range, above_base, breakpoint, bad_service}
use Rattle.armv6m_machine.specs.declared.faults.Fault.{Fault}
use Rattle.armv6m_machine.specs.declared.faults.Fault.TheVariants.{Undefined, Unaligned, OutOfMap, NotThumb, StackRange, AboveBase, Breakpoint, BadService}

-- The number of a fault.
abbrev pub number_of : Fault → ℕ
number_of Undefined = undefined
number_of Unaligned = unaligned
number_of OutOfMap = out_of_map
number_of NotThumb = not_thumb
number_of StackRange = stack_range
number_of AboveBase = above_base
number_of Breakpoint = breakpoint
number_of BadService = bad_service

-- An access is of one, two or four bytes.
abbrev pub IsSize : ℕ → Type 0
IsSize bytes = (bytes ≡ 1) ⊎ (bytes ≡ 2) ⊎ (bytes ≡ 4)

-- The answer is this fault, or None where there is none.
abbrev pub IsCheck : Option Fault → Option ℕ → Type 0
IsCheck None o = o ≡ None
IsCheck (Some f) o = o ≡ Some (number_of f)

-- The address is in flash or in RAM.
abbrev pub IsHeld : ℕ → Type 0
IsHeld at = (at < flash_end) ⊎ ((globals_at ≤ at) × (at < ram_end))
