pub mod Lists
pub mod Pairs
pub mod Resting
pub mod Seats
pub mod Turns
