pub mod Sizes
pub mod Code
pub mod Statements
pub mod Repeated
pub mod Lowered
pub mod inner
