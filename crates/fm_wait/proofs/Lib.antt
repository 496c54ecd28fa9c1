pub mod Members
pub mod Leasts
pub mod Ways
pub mod Firsts
pub mod Listed
pub mod Standing
pub mod Rings
