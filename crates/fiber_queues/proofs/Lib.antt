mod Chosen
mod ChosenKeys
mod Calls
mod Keys
pub mod Laws
