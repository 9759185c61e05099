-- Lemmas that other crates cite.
pub use Rattle.sts_prelude.proofs.Renumbered.{moved}
pub use Rattle.sts_prelude.proofs.Spelling.{library_spelled, own_tokens_are, tokens_by}
pub use Rattle.sts_prelude.proofs.Tokens.{own, own_tokenized, own_tokens}
