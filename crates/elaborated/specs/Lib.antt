pub mod Elaborating
pub mod Elaborated
pub mod Laws
pub mod Rows
