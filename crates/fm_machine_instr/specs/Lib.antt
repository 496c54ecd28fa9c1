pub mod Told
pub mod Ports
