pub mod Limits
pub mod Uses
