pub mod Limits
pub mod Form
pub mod Verdict
pub mod Within
pub mod Codes
pub mod Shapes
pub mod Rows
