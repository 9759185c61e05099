pub mod Routine
pub mod Steady
pub mod Divides
pub mod Banked
