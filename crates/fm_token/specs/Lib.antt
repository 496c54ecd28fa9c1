pub mod Classes
pub mod Cutting
pub mod Pieces
pub mod Statements
pub mod Steps
pub mod TopLevel
