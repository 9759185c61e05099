pub mod Sorts
pub mod Fits
pub mod Kept
