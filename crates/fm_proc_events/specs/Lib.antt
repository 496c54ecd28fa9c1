pub mod Phases
pub mod Told
pub mod Performs
pub mod Events
pub mod Makes
pub mod Discards
