pub mod Doing
pub mod Asked
pub mod Messages
pub mod NewChannels
pub mod Faults
pub mod Rooms
pub mod OperandLimits
pub mod Discards
