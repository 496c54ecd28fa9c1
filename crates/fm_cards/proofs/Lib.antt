mod Labels
mod Lines
mod ScanLaws
pub mod PhaseZero
