pub mod Beginning
pub mod Ending
pub mod Explained
pub mod Located
pub mod Open
pub mod Reading
