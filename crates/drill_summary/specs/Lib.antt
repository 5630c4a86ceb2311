pub mod Laws
pub mod Projections
pub mod Streams
pub mod Summaries
pub mod Texts
