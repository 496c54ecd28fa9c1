pub mod Runs
pub mod States
pub mod Played
pub mod Receipts
pub mod Ends
pub mod Ready
pub mod Resting
