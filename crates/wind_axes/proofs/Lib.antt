pub mod Sines
