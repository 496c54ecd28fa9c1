pub mod Components
pub mod Least
