pub mod Exits
pub mod Greatest
pub mod Resting
pub mod Paths
pub mod Limits
pub mod Sheltered
