pub mod Numerals
pub mod Ranges
pub mod Steps
pub mod Walks
pub mod Spelling
pub mod Rows
pub mod Parses
