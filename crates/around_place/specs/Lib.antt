pub mod Around
pub mod Brackets
pub mod Rows
pub mod Telling
pub mod Words
