pub mod Fixes
pub mod Control
