pub mod Starts
pub mod Ties
pub mod Weights
