pub mod Values
pub mod Operations
pub mod Intrinsics
pub mod Trips
pub mod Places
