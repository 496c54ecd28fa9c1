pub mod Coded
pub mod Given
pub mod Played
pub mod Sound
