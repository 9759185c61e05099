pub mod Clerks
pub mod Workers
pub mod Careful
pub mod Slow
pub mod Programs
