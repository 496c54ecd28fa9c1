pub mod Statements
pub mod Names
pub mod Checked
