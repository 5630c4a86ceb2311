pub mod Commands
pub mod Faults
pub mod Forms
pub mod Parts
pub mod Places
pub mod Plants
pub mod Texted
pub mod WordLemmas
