pub mod Quotients
pub mod Fractions
