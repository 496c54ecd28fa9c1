pub mod Acts
pub mod Passing
pub mod Statements
pub mod Fused
pub mod Parts
pub mod Rares
pub mod Top
