pub mod Reserves
pub mod Paths
pub mod Limits
pub mod Shelters
