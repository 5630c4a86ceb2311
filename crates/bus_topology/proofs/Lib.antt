pub mod Apart
pub mod Connections
pub mod Maps
pub mod Plants
pub mod Shares
pub mod Totals
