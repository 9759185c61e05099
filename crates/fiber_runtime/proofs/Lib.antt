mod Sound
mod Stack
mod Frame
mod Copied
mod Switched
mod Waking
mod Fibers
pub mod Laws
