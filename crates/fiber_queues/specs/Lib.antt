pub mod Lists
pub mod Keys
pub mod Calls
pub mod Moves
