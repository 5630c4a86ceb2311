pub mod Clones
pub mod Commands
pub mod Follows
pub mod Histories
pub mod Interleaving
pub mod Kept
pub mod Replies
pub mod Verdicts
