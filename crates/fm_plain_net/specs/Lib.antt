pub mod Readings
pub mod Held
pub mod Goes
pub mod Advances
pub mod Shown
pub mod Waited
