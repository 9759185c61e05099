pub mod Operators
pub mod Frames
pub mod Steps
