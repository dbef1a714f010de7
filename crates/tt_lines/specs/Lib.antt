pub mod Lines
pub mod Writes
pub mod Running
pub mod Anew
pub mod Ends
