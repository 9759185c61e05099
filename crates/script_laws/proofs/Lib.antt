mod Ends
mod Agreeing
pub mod Laws
