pub mod Columns
pub mod Explained
