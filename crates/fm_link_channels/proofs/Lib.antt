mod Sent
mod Ends
mod Steps
mod Network
pub mod Following
