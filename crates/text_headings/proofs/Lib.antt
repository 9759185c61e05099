pub mod Laws
pub mod Parameters
pub mod Refusals
pub mod SeenNames
pub mod Standing
