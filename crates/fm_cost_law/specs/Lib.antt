pub mod Quiet
pub mod Shapes
pub mod Words
pub mod Steps
