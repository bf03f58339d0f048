pub mod Loops
pub mod Scripts
pub mod Judged
pub mod Rows
pub mod Right
pub mod Whole
pub mod Books
