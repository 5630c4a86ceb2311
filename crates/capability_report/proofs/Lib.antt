pub mod Words
pub mod Ends
pub mod Limits
pub mod Written
