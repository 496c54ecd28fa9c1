pub mod Cycles
pub mod Flow
pub mod Ends
pub mod Pipes
pub mod Ports
