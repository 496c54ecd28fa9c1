pub mod Moves
pub mod Held
pub mod Good
