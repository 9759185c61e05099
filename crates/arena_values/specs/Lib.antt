pub mod Words
pub mod Lies
