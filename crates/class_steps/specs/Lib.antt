pub mod Outlook
pub mod Texts
