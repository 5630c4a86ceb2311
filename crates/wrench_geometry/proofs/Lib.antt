pub mod Bounds
pub mod Wraps
pub mod Supports
pub mod VertexSums
pub mod Limits
pub mod WedgeFans
pub mod FanEdges
pub mod Levers
