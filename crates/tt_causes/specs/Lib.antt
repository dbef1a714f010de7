pub mod Causes
pub mod Differences
pub mod Numbers
pub mod Laws
