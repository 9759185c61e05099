pub mod OneMore
pub mod Loops
pub mod Turns
pub mod Lasts
pub mod Longest
