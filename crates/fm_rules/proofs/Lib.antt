pub mod Earlier
pub mod Empty
pub mod FieldSizes
pub mod FlagLaws
pub mod Lists
mod Races
