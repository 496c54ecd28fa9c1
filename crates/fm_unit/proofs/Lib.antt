pub mod Applied
pub mod Joins
pub mod Fronts
pub mod Filling
pub mod Laying
pub mod Bodies
pub mod Clean
