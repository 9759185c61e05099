pub mod Laws
pub mod TypedLaws
mod BoardNames
pub mod BoardLookup
pub mod Measured
pub mod Holds
pub mod FrameBounds
mod WorkedRows
