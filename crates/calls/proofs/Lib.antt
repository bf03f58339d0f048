pub mod Possible
pub mod Books
pub mod Lawful
pub mod Performing
