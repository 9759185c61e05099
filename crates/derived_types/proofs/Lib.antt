pub mod Gathered
pub mod Least
pub mod Ruled
pub mod Working
