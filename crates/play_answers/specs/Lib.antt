pub mod Answers
pub mod Policy
