pub mod Words
pub mod Held
pub mod Fails
pub mod Values
