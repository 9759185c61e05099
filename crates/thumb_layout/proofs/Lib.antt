pub mod Meaning
pub mod Chunks
pub mod Settling
pub mod Lengths
pub mod Near
pub mod Fitting
pub mod Counting
pub mod Passing
pub mod Growing
pub mod Writing
pub mod Emitting
pub mod Bytes
pub mod Shown
pub mod Holding
pub mod Soundness
pub mod Fixing
pub mod Laws
mod Silent
