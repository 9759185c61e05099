mod Moments
mod Scripts
mod Once
mod On
mod Kept
mod Implement
mod Lines
mod Full
mod Arriving
mod Stepped
mod Standing
mod Giving
mod Heard
mod Later
mod Onward
mod Texts
pub mod Laws
