pub mod Maps
pub mod KeptMaps
pub mod KeptSheets
pub mod Layouts
pub mod Broken
