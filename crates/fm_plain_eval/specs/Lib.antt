pub mod Scopes
pub mod Outcomes
pub mod References
pub mod Printing
pub mod Operands
