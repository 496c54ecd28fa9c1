pub mod Verdict
pub mod Program
