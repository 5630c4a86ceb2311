pub mod Checks
pub mod Sessions
pub mod Steps
pub mod Votes
pub mod Writing
