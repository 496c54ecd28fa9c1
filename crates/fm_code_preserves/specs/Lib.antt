pub mod Weights
pub mod Rooms
pub mod Standing
pub mod Endings
