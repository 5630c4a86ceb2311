pub mod Hands
pub mod Passes
