pub mod Boards
pub mod Books
pub mod Calls
pub mod Telegrams
pub mod Values
