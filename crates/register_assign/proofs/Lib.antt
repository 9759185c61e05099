pub mod Marking
pub mod Covering
pub mod Assigning
pub mod Checking
pub mod Unreading
pub mod Saving
pub mod Laws
pub mod Choosing
