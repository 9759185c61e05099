pub mod Limits
pub mod Form
pub mod Verdict
pub mod World
pub mod Sound
pub mod Codes
pub mod Shapes
