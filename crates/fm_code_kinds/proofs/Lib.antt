pub mod Places
pub mod Evaluating
pub mod Operands
pub mod Building
pub mod Ending
pub mod Statements
pub mod NotStuck
pub mod SampleLaws
