pub mod Laws
mod History
mod Writes
