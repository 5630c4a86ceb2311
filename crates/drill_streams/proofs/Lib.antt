pub mod Bodies
pub mod Drills
pub mod Frames
pub mod SoFar
pub mod Telegrams
