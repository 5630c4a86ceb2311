pub mod Thrusters
