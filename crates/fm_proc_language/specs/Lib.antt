pub mod Slots
pub mod Frames
pub mod Processes
pub mod Needs
