-- The laws that proofs of other crates cite.

-- how many pass a test
pub use Rattle.message_bus.proofs.Counting.{many-append, many-map, many-woken}
-- the set of bits that a dispatch gives, and the numbers in it
pub use Rattle.message_bus.proofs.Bits.{numbers-none, numbers-bits, rising-weaker, rising-beginning}
-- the world's new activities by the listeners' numbers; the function of a listener's handler stays
pub use Rattle.message_bus.proofs.Handlers.{none-begun, begun-mapped, handler-heard, handler-ended, handler-more}
pub use Rattle.message_bus.proofs.Keeping.{begun-agrees, held-agrees, alive-heard, begins-agrees, numbers-agree}
-- a bus goes on agreeing with a world: where it is called, and where it isn't
pub use Rattle.message_bus.proofs.Keeping.{dispatch-agrees, raise_now-agrees, listens-agrees, ends-agrees}
pub use Rattle.message_bus.proofs.Keeping.{agrees-along, goes-agrees, sleeps-agrees, waits-agrees, joins-agrees, leaves-agrees, jump-agrees, stops-agrees, queue-answer}
-- the same for whole turns
pub use Rattle.message_bus.proofs.Keeping.{asks-agrees, takes-agrees, pauses-agrees, awaits-agrees, spawns-agrees}
