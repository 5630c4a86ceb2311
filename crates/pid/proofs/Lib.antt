pub mod Demands
pub mod Folds
pub mod Sizes
