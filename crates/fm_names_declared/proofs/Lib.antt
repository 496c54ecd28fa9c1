pub mod Maps
pub mod Noted
