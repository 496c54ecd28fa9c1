pub mod Events
pub mod Links
