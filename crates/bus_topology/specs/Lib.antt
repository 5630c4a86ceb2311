pub mod Islands
pub mod Shares
