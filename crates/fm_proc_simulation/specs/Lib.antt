pub mod Corresponds
pub mod Here
pub mod Shown
pub mod SlotWords
pub mod Joining
pub mod Matching
