pub mod Numbers
pub mod Counts
pub mod TypeTests
pub mod Frames
pub mod Places
pub mod Begins
pub mod Units
