pub mod Library
pub mod Resolved
pub mod Spelled
