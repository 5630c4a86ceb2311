pub mod Commands
pub mod Fits
pub mod Json
pub mod Laws
pub mod Lines
pub mod Outcomes
pub mod Texts
