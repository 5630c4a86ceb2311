pub mod Calls
pub mod Laws
pub mod Medians
pub mod References
pub mod Rounds
pub mod Steps
pub mod Texts
