pub mod Drops
pub mod Told
pub mod Goes
pub mod Trees
