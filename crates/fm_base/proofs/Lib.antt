mod ChainLaws
pub mod PathLaws
pub mod Order
pub mod Least
pub mod Phases
pub mod OneVerdict
pub mod PositionLaws
