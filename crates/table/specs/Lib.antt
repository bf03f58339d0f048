pub mod Parts
pub mod Standing
pub mod Answers
pub mod Shows
pub mod Steps
pub mod Books
