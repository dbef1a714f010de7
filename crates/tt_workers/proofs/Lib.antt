pub mod CallLemmas
pub mod WorkLemmas
pub mod MergingLemmas
pub mod MadeLemmas
pub mod RunningLemmas
pub mod ThreadsLemmas
pub mod Crossing
pub mod QueueLemmas
