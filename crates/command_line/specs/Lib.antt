pub mod Tool
pub mod Found
