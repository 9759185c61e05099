pub mod Images
pub mod Forgotten
pub mod Passes
