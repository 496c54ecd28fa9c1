pub mod Tests
mod SameBodies
mod OnePrograms
mod SamePrograms
