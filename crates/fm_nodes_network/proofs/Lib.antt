pub mod Sending
pub mod Named
pub mod Losing
pub mod Staying
mod Leaving
