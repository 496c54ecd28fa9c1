pub mod Loads
pub mod Channels
pub mod Hosts
pub mod Steps
pub mod Play
