pub mod Halves
pub mod OneList
pub mod Counts
pub mod Along
pub mod Pieces
pub mod Fairness
pub mod Reached
pub mod OneRun
