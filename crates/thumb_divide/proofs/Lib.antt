mod Signed
mod Sums
mod Loop
mod Whole
mod Reading
pub mod Laws
