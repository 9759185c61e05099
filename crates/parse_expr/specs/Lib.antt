pub mod Gives
pub mod Headings
pub mod Nests
pub mod Lasts
pub mod Answers
