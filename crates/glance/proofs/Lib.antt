pub mod Adding
pub mod Chains
pub mod Fronts
pub mod Places
pub mod SameCells
pub mod Shots
