pub mod Kept
pub mod Procs
pub mod Family
mod Starting
