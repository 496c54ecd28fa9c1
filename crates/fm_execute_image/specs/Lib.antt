pub mod Outcome
pub mod Play
pub mod Executed
