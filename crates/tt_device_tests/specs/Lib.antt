pub mod Device
pub mod Laws
pub mod Outcomes
