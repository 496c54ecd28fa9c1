pub mod Laid
pub mod First
pub mod Reached
