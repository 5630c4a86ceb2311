pub mod Vectors
pub mod Wrenches
pub mod Cuts
pub mod Vertices
pub mod Chosen
pub mod Fans
pub mod Directions
