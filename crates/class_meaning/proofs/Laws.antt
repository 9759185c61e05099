-- The laws that proofs of other crates cite, at any types: what boards write is what the class of those writes that they implement, whole or cut.
pub use Rattle.class_meaning.proofs.Above.{means_whole, means_cut}
