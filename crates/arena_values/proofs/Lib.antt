mod Signs
mod Update
mod Standing
mod Objects
mod Arrays
mod Showing
mod Seen
mod Making
mod Addresses
mod Pushing
mod Comparing
mod Numbers
mod Equal
mod Operators
mod Operating
pub mod Laws
