pub mod Means
pub mod Lowest
pub mod Reached
pub mod Steps
pub mod Beyond
pub mod First
pub mod Spreads
pub mod Tents
