pub mod Pushing
pub mod Headers
pub mod AsService
