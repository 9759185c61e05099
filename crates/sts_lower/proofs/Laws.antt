-- Lemmas that other crates cite.
pub use Rattle.sts_lower.proofs.Made.{few_fields, few_functions}
pub use Rattle.sts_lower.specs.inner.Fitting.{HasFewFields}
