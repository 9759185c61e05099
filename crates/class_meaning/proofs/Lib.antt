mod Above
pub mod Laws
