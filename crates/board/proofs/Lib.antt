pub mod Knowing
pub mod Asking
pub mod Playing
