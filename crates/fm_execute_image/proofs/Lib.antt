mod Places
pub mod Begun
pub mod PortWords
pub mod Alike
pub mod Runs
pub mod Following
pub mod FairAlike
pub mod Played
