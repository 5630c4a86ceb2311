pub mod Folds
pub mod Rings
