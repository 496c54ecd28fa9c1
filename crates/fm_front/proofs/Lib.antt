pub mod CardVerdicts
pub mod OnePrograms
pub mod Uniques
pub mod Phases
