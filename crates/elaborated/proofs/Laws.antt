-- The laws that proofs of other crates cite.

pub use Rattle.elaborated.proofs.Telling.{failed, Tells, ok_tells, as_failure, then_tells, last_tells, ends_tells, need_last, check_tells, made_then, made_end, looked_is}
pub use Rattle.elaborated.proofs.Nodes.{parameters_even}
pub use Rattle.elaborated.proofs.Agreement.{given_tells, initial_tells, statement_tells, statements_tell}
