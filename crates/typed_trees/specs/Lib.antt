pub mod Calls
pub mod Sites
pub mod Fits
pub mod Grown
pub mod Operators
pub mod Targets
pub mod Steps
pub mod Functions
