pub mod Words
pub mod Needs
pub mod Hosted
pub mod Alone
pub mod Found
pub mod Verdicts
pub mod Declared
