pub mod Faults
pub mod PlantSource
pub mod Plants
pub mod Sorting
pub mod Statuses
pub mod Words
pub mod Writing
