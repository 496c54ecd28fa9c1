pub mod Readings
pub mod Kept
pub mod Awaited
pub mod Waiting
pub mod Pieces
pub mod Stepping
