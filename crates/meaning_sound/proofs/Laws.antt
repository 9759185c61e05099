-- The laws that proofs of other crates cite.

-- each step of a typed activity leaves all typed and is no fault, and a run begins typed
pub use Rattle.meaning_sound.proofs.Turns.{source_sound, empty_is}
