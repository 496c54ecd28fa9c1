pub mod Rounds
pub mod Sendings
pub mod Channels
