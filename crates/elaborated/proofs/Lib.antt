mod Telling
mod Nodes
mod Parts
mod Agreement
pub mod Laws
