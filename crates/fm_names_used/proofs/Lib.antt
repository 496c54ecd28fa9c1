pub mod Meetings
pub mod Fields
