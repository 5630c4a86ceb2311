pub mod Sweeps
pub mod Verdicts
pub mod Works
