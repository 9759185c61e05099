mod Turns
mod OpenBrackets
mod Programs
