pub mod Lines
pub mod Cards
pub mod Broken
pub mod Scan
