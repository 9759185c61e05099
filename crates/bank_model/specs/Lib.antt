pub mod Bank
pub mod Fibers
pub mod Texts
pub mod Arrays
pub mod AllServices
pub mod BoardMachine
pub mod Standing
pub mod Runs
