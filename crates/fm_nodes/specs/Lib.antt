pub mod Nodes
pub mod Fails
pub mod Made
pub mod Played
pub mod Ends
