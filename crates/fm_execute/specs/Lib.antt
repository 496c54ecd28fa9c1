pub mod Coded
pub mod Causes
