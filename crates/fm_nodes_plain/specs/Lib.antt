pub mod Plain
pub mod Carriers
pub mod Lines
pub mod Search
