pub mod Shapes
pub mod Effects
pub mod Kinded
pub mod Leading
pub mod Fitting
pub mod Bodies
pub mod Sample
