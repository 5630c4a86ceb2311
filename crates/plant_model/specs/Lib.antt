pub mod Demo
pub mod Lies
pub mod Limits
pub mod Names
pub mod Numbers
pub mod Plants
pub mod Rings
pub mod Versions
