pub mod Outcome
pub mod First
pub mod Waits
pub mod Parts
pub mod Holding
