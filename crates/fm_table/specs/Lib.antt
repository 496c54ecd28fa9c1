pub mod Coded
pub mod Told
pub mod Planned
pub mod Turning
pub mod Giving
pub mod Outs
pub mod Inside
