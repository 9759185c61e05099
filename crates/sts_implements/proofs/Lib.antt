mod Plain
mod Agreeing
mod Passes
pub mod Laws
