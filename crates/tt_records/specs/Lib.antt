pub mod Same
pub mod Changes
