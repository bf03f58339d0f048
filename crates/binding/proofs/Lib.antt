mod Digits
mod Firsts
mod Replaced
