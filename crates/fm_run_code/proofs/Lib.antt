pub mod Standing
pub mod Pieces
pub mod Waiting
pub mod Awaiting
pub mod Histories
pub mod Sound
