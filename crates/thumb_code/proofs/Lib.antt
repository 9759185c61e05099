pub mod Laws
mod Asking
mod TakenWords
mod Refine
mod Runs
mod Spelled
mod Sums
mod Worked
mod Stores
