mod Boards
mod Light
mod Implementing
mod Room
mod Layable
mod Imaged
mod Reached
pub mod Laws
