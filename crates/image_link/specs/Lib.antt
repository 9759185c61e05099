pub mod Image
pub mod Linkable
pub mod inner
