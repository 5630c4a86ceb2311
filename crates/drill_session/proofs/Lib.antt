pub mod Asking
pub mod Ending
pub mod Summing
pub mod Words
