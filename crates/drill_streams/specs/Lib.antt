pub mod Draws
pub mod Laws
pub mod Steps
pub mod Streams
