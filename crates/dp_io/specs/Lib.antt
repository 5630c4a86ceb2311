pub mod Memory
pub mod Shown
pub mod Streams
