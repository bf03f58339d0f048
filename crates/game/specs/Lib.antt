pub mod Structure
pub mod Lists
pub mod Divided
pub mod Serving
pub mod Reading
pub mod Made
pub mod Bound
