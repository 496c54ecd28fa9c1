pub mod Shapes
pub mod Typed
pub mod Codes
pub mod Sample
