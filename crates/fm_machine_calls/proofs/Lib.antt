pub mod Merging
pub mod Plain
pub mod Lines
