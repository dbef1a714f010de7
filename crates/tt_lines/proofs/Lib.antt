pub mod LineLemmas
pub mod RunningLemmas
pub mod EndingLemmas
