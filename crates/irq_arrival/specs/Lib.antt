pub mod Along
pub mod RanWith
pub mod Underway
pub mod ReachesWith
pub mod ImageRuns
pub mod SourceRuns
