pub mod Firsts
pub mod Jumps
pub mod Walks
pub mod Loops
