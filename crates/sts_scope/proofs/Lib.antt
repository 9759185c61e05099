pub mod Lists
pub mod Deeper
pub mod Statements
pub mod Whole
pub mod Chains
pub mod Symbols
mod Puts
pub mod Longer
pub mod Seeing
pub mod Going
pub mod Laws
