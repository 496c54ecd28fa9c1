pub mod Ends
pub mod Flags
pub mod Marks
pub mod Paths
pub mod Reach
pub mod Turns
