pub mod Backs
pub mod Races
