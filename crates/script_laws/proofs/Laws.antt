-- The laws that proofs of other crates cite.
pub use Rattle.script_laws.proofs.Agreeing.{agree}
