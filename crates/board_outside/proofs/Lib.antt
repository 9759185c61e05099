pub mod Laws
mod Texts
mod Words
mod Moving
mod Meeting
