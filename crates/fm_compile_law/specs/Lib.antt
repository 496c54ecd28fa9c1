pub mod Types
pub mod Units
pub mod Along
pub mod Counted
pub mod Passed
pub mod Walks
pub mod Sized
