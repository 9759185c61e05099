pub mod Laws
mod Streams
