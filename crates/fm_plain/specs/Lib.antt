pub mod Events
pub mod Standing
pub mod Steps
pub mod Operands
pub mod Cutting
pub mod Advance
pub mod Looking
