pub mod Schedule
pub mod Simulation
pub mod Counters
