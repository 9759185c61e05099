-- The laws that proofs of other crates cite.

-- a run of an image that implements a program reaches the program's source, ends by no fault, and exists
pub use Rattle.sts_whole.proofs.Reached.{reaches, faultless, run_exists}
