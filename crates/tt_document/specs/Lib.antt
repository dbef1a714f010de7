pub mod Reads
pub mod Calls
pub mod Repair
pub mod Reading
pub mod Document
