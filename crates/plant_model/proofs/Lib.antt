pub mod Copies
pub mod NameBytes
