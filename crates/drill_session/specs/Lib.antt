pub mod Calls
pub mod Drills
