pub mod Marks
pub mod Arcs
pub mod Units
pub mod Walks
