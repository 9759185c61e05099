pub mod Tokens
pub mod Renumbered
pub mod Spelling
mod Refusals
mod Resolving
pub mod Laws
