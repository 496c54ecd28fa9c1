pub mod Needed
pub mod Steps
