pub mod Memory
pub mod Frames
pub mod LetGo
pub mod Leaving
pub mod Units
pub mod Lookup
pub mod References
