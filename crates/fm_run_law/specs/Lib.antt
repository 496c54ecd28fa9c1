pub mod Entries
pub mod Fair
pub mod One
pub mod Alike
