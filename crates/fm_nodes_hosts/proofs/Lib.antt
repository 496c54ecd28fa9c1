pub mod Playing
pub mod Steps
mod Carrying
pub mod Travelling
mod Received
mod Restarting
mod Fitting
mod Holding
mod Stopping
