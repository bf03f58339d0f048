mod Turns
mod Loops
