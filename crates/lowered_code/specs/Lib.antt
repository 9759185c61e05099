pub mod Fine
pub mod Costs
pub mod Texts
