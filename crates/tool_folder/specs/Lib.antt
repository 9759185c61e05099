pub mod Fetching
pub mod Noting
pub mod Reading
pub mod Memory
