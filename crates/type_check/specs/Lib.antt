pub mod Contexts
pub mod Seen
pub mod Bounds
pub mod Texts
