mod Digits
mod Written
