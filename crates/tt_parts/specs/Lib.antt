pub mod Partitions
pub mod Soundness
pub mod Dirty
pub mod Sets
pub mod Laws
