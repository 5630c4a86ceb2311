pub mod Wind
