pub mod RowListsLemmas
pub mod EditsLemmas
pub mod DirtyLemmas
pub mod EffectsLemmas
pub mod AffectedLemmas
pub mod TrackingLemmas
pub mod UnaffectedLemmas
pub mod DueLemmas
pub mod MembersLemmas
pub mod StepsLemmas
pub mod LaterSlotsLemmas
pub mod NextSideLemmas
pub mod LawProofs
mod worked_rows
