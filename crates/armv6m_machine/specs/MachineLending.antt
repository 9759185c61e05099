-- The stack region, lent out of a machine.
use Rattle.std.specs.Prelude.{ℕ, List}
use Rattle.std.specs.Borrow.{Lends, MutBor, Fml, u32, Array}
use Rattle.thumb_code.specs.Machine.{State}
use Rattle.armv6m_machine.specs.Lending.{with_stack}
use Rattle.armv6m_machine.specs.contracts.machine.Machine.{the_row}

abbrev pub with_stack_words : State → List ℕ → State
with_stack_words s ws = record s { memory = with_stack s.memory ws }

-- The last words behind the result become the stack region's.
abbrev pub LendsStackWords : MutBor State → MutBor (List ℕ) → Fml
LendsStackWords s r = Lends the_row (Array u32 0) s r (with_stack_words s.now)
