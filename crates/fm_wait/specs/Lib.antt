pub mod Waits
pub mod Cycles
pub mod Places
