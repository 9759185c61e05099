mod Lists
mod Still
mod Operators
mod Joins
mod Joining
mod Fine
mod Sound
mod Labels
mod Once
mod Within
mod Naming
pub mod Saved
pub mod Laws
