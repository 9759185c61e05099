mod Counting
mod Lists
mod Soundness
mod Exactly
mod Members
pub mod Laws
