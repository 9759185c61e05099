pub mod Moves
pub mod Ports
pub mod Outputs
pub mod Cuts
