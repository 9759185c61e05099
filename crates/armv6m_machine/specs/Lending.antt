-- The stack region, lent out of a memory.
use Rattle.std.specs.Prelude.{ℕ, List, ◌++◌, take, drop, length}
use Rattle.std.specs.Borrow.{Lends, MutBor, Fml, u32, Array}
use Rattle.thumb_code.specs.Machine.{Ram}
use Rattle.armv6m_machine.specs.contracts.mapped_memory.MappedMemory.{the_row}

-- The stack region begins with these words. It has 1024.
abbrev pub with_stack : Ram → List ℕ → Ram
with_stack m ws = record m { stack = take 1024 (ws ++ drop (length ws) m.stack) }

-- The last words behind the result become the stack region's.
abbrev pub LendsStack : MutBor Ram → MutBor (List ℕ) → Fml
LendsStack s r = Lends the_row (Array u32 0) s r (with_stack s.now)
