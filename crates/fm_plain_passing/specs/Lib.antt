pub mod Items
pub mod Between
pub mod Rooms
