pub mod Asks
pub mod Processes
pub mod Children
