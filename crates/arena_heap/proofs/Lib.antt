pub mod Laws
mod Putting
mod AsAsked
