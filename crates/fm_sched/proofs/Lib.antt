pub mod Runs
pub mod Along
pub mod Fronts
pub mod Moves
pub mod Simulations
pub mod Counters
