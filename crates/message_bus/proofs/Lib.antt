mod Changes
mod Counting
mod Handlers
mod Bits
mod Keeping
pub mod Laws
