mod Kept
mod Members
