pub mod Items
pub mod Formals
pub mod Walks
