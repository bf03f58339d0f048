pub mod Stopping
pub mod Judging
pub mod Printed
pub mod Right
pub mod Steps
pub mod Whole
