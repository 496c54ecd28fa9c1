pub mod Types
pub mod ImageOf
pub mod Made
