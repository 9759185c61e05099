pub mod Counts
pub mod Logs
pub mod Account
pub mod Plugged
pub mod History
