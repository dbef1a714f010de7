pub mod RefusalLemmas
pub mod EntryLemmas
pub mod ClosedLemmas
pub mod KeptLemmas
pub mod DatabaseLemmas
pub mod HistoryLemmas
pub mod BeginnerLemmas
pub mod CurrentLemmas
pub mod StepsLemmas
pub mod TrialLemmas
pub mod KeyLemmas
pub mod PageLemmas
pub mod SwitchLemmas
pub mod LawProofs
mod worked_rows
