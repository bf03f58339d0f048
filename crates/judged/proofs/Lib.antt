pub mod Computed
pub mod Tables
pub mod Bindings
