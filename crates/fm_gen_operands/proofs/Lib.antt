pub mod Counts
pub mod DimensionLaws
pub mod Follows
pub mod PlaceLaws
pub mod ActualLaws
pub mod SeatLaws
