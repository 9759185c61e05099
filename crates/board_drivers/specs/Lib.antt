pub mod Buttons
pub mod Display
pub mod Places
