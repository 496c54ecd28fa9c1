pub mod Fields
pub mod Kept
pub mod Shapes
pub mod Steps
