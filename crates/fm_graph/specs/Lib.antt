pub mod Flags
pub mod Graph
pub mod Search
