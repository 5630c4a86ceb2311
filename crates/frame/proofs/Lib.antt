pub mod BodyBytes
pub mod Counts
pub mod Exact
pub mod Feeds
pub mod Lines
pub mod StreamItems
pub mod Written
