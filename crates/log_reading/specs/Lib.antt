pub mod Calls
pub mod Fields
pub mod Lines
pub mod Outcomes
pub mod Replies
