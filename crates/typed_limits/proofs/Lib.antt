mod Lengths
pub mod Noting
mod Behind
