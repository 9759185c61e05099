pub mod Ops
pub mod WellFormed
pub mod Liveness
