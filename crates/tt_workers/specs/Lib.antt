pub mod Faults
pub mod Calls
pub mod Merging
pub mod Running
pub mod Report
