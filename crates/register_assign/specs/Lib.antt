pub mod Sound
pub mod Marks
pub mod Readings
pub mod Intervals
pub mod Checks
pub mod Unread
pub mod Saving
pub mod Chosen
