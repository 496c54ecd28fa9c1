pub mod Goes
pub mod Joins
pub mod Ends
