pub mod Keys
pub mod Inserts
pub mod Adjusts
pub mod Alters
pub mod Entries
pub mod Sums
pub mod Facts
pub mod Maps
pub mod Rows
mod Kept
pub mod Sorted
pub mod Chosen
mod Table
