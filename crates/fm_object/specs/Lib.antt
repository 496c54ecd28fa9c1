pub mod Texts
pub mod Words
pub mod Reading
pub mod Shapes
