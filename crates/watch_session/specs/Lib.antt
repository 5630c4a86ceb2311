pub mod Asked
pub mod Callers
pub mod Crews
pub mod Loops
pub mod Threads
pub mod Watches
