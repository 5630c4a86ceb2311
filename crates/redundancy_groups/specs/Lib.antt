pub mod Standing
pub mod Loads
pub mod Connections
pub mod Surviving
