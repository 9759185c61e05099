pub mod Origins
pub mod Underway
pub mod Work
pub mod Rules
pub mod Solved
