pub mod Compiled
pub mod Building
pub mod Runs
pub mod Programs
pub mod Laws
