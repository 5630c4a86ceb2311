pub mod Choices
pub mod Fed
pub mod Loads
pub mod Numbered
pub mod Places
pub mod Plants
pub mod Ways
