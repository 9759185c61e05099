pub mod formers
pub mod Places
pub mod Numbers
pub mod Distinct
pub mod Int32
pub mod Faults
pub mod Prefix
