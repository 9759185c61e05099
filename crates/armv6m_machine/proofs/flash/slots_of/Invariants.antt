use Rattle.std.proofs.Common.{◌≡◌, length}
use Rattle.armv6m_machine.specs.Steps.{AreSlots}
use Rattle.armv6m_machine.proofs.flash.slots_of.Given as goal

abbrev pub invariant-loop-k : goal.invariant-loop-k
invariant-loop-k l = record { told : AreSlots l.bytes 0 l.slots.items; count : length l.slots.items ≡ l.k }
