pub mod Edits
pub mod Due
pub mod Laws
pub mod Steps
pub mod NextSide
