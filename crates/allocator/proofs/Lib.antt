pub mod Resting
pub mod Duals
pub mod Shares
pub mod Farthest
pub mod Rightness
