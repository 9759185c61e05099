-- Steps of the machine one after the other.
use Rattle.std.specs.Prelude.{◌≡◌, ℕ, zero, suc, ◌+◌}
use Rattle.thumb_code.specs.Machine.{State, step}
use Rattle.armv6m_machine.specs.declared.faults.Turn.{Turn}
use Rattle.armv6m_machine.specs.declared.faults.Turn.TheVariants.{Went}
use Rattle.armv6m_machine.specs.Steps.{IsStep}

-- So many steps, each of which went on.
abbrev pub GoOn : ℕ → State → State → Type 0
GoOn zero old new = new ≡ old
GoOn (suc n) old new = (last : State) × GoOn n old last × IsStep (step last) Went last new

-- So many steps, at least one: all before the last went on, and the last, which began with PC at this address, came to this.
pub record Executes (count at : ℕ) (turn : Turn) (old new : State) : Type 0 where
  pub before : ℕ
  pub last : State
  pub went : GoOn before old last
  pub begins : last.registers.pc ≡ at
  pub comes : IsStep (step last) turn last new
  pub counted : count ≡ before + 1
