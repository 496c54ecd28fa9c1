pub mod Maps
pub mod Scopes
