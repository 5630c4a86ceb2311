pub mod Done
pub mod Going
pub mod Numbers
pub mod Swept
pub mod Verdicts
pub mod Worked
