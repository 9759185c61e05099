mod Lists
mod Growth
mod Operations
mod Boards
mod Trees
mod Functions
mod Turns
mod Sample
pub mod Laws
