pub mod Law
pub mod Readers
pub mod Shown
pub mod Shots
pub mod Stages
