pub mod Laws
pub mod Ring
pub mod Order
pub mod Quotients
pub mod Intervals
pub mod Machine
pub mod Bed
