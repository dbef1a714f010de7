pub mod CarryingOut
pub mod CommandLine
pub mod Ending
pub mod Logging
pub mod Running
pub mod Status
