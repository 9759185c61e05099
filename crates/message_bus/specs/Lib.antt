pub mod ListenerState
pub mod BusState
pub mod Numbers
pub mod Answers
pub mod Agreement
pub mod TwelveEvents
