pub mod ZeroTests
pub mod PowerLaws
pub mod TripLaws
pub mod WordLaws
pub mod PlaceLaws
