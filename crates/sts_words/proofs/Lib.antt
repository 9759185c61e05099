mod Digits
pub mod Laws
mod Parts
mod Reader
mod Spelled
