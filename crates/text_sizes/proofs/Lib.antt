mod Tokens
mod Headings
mod Functions
mod Declarations
mod Routines
pub mod Laws
