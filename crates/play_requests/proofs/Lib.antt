mod Begins
mod Compared
mod Digits
