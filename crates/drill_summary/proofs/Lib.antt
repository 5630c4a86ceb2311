pub mod Apart
pub mod Demands
pub mod Drills
pub mod Fitting
pub mod Replies
pub mod Sensed
pub mod Summed
pub mod Switched
