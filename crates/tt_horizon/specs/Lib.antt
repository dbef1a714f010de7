pub mod Ground
pub mod Forgetting
pub mod GroundEntries
pub mod Laying
pub mod Laws
