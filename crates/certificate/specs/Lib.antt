pub mod Outcomes
pub mod Sides
pub mod Beside
pub mod Totals
pub mod Losses
