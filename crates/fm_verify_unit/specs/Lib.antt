pub mod Counts
pub mod Telling
pub mod Ends
pub mod Formals
pub mod Leads
pub mod Along
