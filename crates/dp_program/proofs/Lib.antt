pub mod Gravest
pub mod Named
