pub mod Returning
pub mod Telling
pub mod Slices
pub mod Going
