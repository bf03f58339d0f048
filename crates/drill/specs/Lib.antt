pub mod Meaning
pub mod Limited
