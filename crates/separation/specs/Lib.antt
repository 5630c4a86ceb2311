pub mod Directions
pub mod Candidates
