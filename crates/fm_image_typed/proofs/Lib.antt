pub mod Codes
pub mod Sample
