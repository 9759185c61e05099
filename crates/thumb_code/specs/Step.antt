-- One step: what stands at PC, and its effect; and what asking for a service leaves as it was.
use Rattle.std.specs.Prelude.{◌≡◌, ℕ, ◌+◌, List, Bool, true, ◌&&◌, if◌then◌else◌, Option, Some, None}
use Rattle.thumb_code.specs.declared.instructions.Instr.{Instr}
use Rattle.thumb_code.specs.declared.register_file.Registers.{Registers}
use Rattle.thumb_code.specs.Reading.{is_wide, reading_of}
use Rattle.thumb_code.specs.Faults.{undefined, out_of_map, not_thumb, stack_range}
use Rattle.thumb_code.specs.RegisterFile.{is_odd, word}
use Rattle.thumb_code.specs.Effect.{Effect, effect}
use Rattle.thumb_code.specs.Memory.{Executed, Done, Asked, Stopped}
use Rattle.thumb_code.specs.Map.{flash_half, in_flash, is_base}

-- A step goes on, asks for a service, or is a fault with an address.
pub data Stepped (S : Type 0) : Type 0 where
  On : Registers → S → Stepped S
  Served : ℕ → Registers → S → Stepped S
  Faulted : ℕ → ℕ → Stepped S

-- What stands at PC: an instruction and the address behind it, or a fault and its address.
pub data Fetched : Type 0 where
  Found : Instr → ℕ → Fetched
  Missed : ℕ → ℕ → Fetched

-- The address behind an instruction, where true stands for one of two halfwords.
abbrev pub behind : ℕ → Bool → ℕ
behind pc is_two = word (pc + (if is_two then 4 else 2))

-- An instruction and the address behind it, or no row spells what stands there.
abbrev pub found : ℕ → ℕ → Option Instr → Fetched
found pc next None = Missed undefined pc
found pc next (Some i) = Found i next

-- Each halfword of the instruction at PC is in flash.
abbrev pub is_in_flash : List ℕ → ℕ → Bool
is_in_flash flash pc = in_flash pc && (if is_wide (flash_half flash pc) then in_flash (pc + 2) else true)

-- What stands at PC in flash. Two faults are tried before all others: the base, which is then the address,
-- and an odd PC, whose next address it is then. So an image whose first words are bad meets them at its first step.
abbrev pub fetched : List ℕ → ℕ → ℕ → Fetched
fetched flash base pc =
    if is_base base then
    (if is_odd pc then Missed not_thumb (word (pc + 1))
    else if is_in_flash flash pc then
    found pc (behind pc (is_wide (flash_half flash pc))) (reading_of (flash_half flash pc) (flash_half flash (pc + 2)))
    else Missed out_of_map pc)
    else Missed stack_range base

-- The address of a fault is that of the instruction.
abbrev pub stepped_at : {S : Type 0} → ℕ → Executed S → Stepped S
stepped_at at (Done r t) = On r t
stepped_at at (Asked n r t) = Served n r t
stepped_at at (Stopped k) = Faulted k at

-- The step from these registers, by what stands at PC and what an effect comes to over a memory.
abbrev pub ran : {S : Type 0} → (Effect → Executed S) → Registers → Fetched → Stepped S
ran over s (Found i next) = stepped_at s.pc (over (effect next s i))
ran over s (Missed k at) = Faulted k at

-- Where a service is asked for, the memory and all registers but PC are as before.
abbrev pub AsksOnly : {S : Type 0} → Registers → S → Executed S → Type 0
AsksOnly s m (Asked n r t) = (t ≡ m) × (record r { pc = s.pc } ≡ s)
AsksOnly s m _ = Unit {0}

-- The same of a step.
abbrev pub ServesOnly : {S : Type 0} → Registers → S → Stepped S → Type 0
ServesOnly s m (Served n r t) = (t ≡ m) × (record r { pc = s.pc } ≡ s)
ServesOnly s m _ = Unit {0}
