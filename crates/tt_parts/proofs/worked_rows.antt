mod Partitions
mod DirtySets
