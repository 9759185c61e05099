pub mod Listed
pub mod Numbered
pub mod Chains
pub mod Laws
pub mod Few
