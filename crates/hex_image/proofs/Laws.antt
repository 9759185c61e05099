-- Lemmas that other crates cite.
pub use Rattle.hex_image.proofs.AnswerLemmas.{one_reading-of}
