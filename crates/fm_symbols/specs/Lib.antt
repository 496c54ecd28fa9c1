pub mod ByName
pub mod Headings
pub mod Context
pub mod Titles
