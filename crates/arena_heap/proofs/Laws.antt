-- The laws that proofs of other crates cite: a push is the service that a fiber asks for.
pub use Rattle.arena_heap.proofs.AsAsked.{push_asked}
