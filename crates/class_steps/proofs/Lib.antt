mod Looking
mod Alike
mod Ending
mod Sound
mod Cutting
mod Longer
mod Begins
mod Clock
mod Same
pub mod Laws
