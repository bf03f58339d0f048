pub mod Lines
pub mod Drilled
pub mod Meeting
pub mod Judged
