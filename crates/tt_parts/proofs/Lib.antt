pub mod PartitionsLemmas
pub mod SoundnessLemmas
pub mod DirtySetLemmas
pub mod EntriesLemmas
pub mod SearchLemmas
pub mod LawProofs
mod worked_rows
