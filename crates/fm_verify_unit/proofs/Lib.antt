pub mod Ends
pub mod Formals
pub mod Places
pub mod Results
pub mod Along
pub mod Walking
