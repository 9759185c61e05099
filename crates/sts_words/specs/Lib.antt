pub mod Orders
pub mod Words
pub mod Views
