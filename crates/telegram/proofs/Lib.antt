pub mod Exact
pub mod Fields
pub mod NumberTexts
pub mod Spelled
pub mod TextBytes
