pub mod Shedding
pub mod Order
