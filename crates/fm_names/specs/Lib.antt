pub mod KeptSheets
pub mod Layouts
