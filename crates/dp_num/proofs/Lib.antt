pub mod Computed
pub mod Divisors
pub mod Floors
pub mod Remainders
pub mod Turns
