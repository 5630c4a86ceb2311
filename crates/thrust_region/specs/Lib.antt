pub mod Choices
pub mod Exact
pub mod Left
pub mod Pieces
pub mod Scaling
