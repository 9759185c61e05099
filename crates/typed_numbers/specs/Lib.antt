pub mod Building
pub mod Counts
