pub mod Growth
pub mod Repairing
