pub mod Finding
pub mod Pieces
pub mod Entries
