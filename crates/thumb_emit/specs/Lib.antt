pub mod Frame
pub mod Joined
pub mod Emit
pub mod Bounds
pub mod Names
pub mod InFlash
pub mod Ready
pub mod Small
