pub mod NumberLemmas
pub mod KindLemmas
pub mod LineLemmas
pub mod StepBackLemmas
pub mod BoundLemmas
pub mod LogOpeningLemmas
pub mod AcceptedLemmas
pub mod LawProofs
pub mod NewestVersionLemmas
pub mod SessionLineLemmas
mod worked_lines
mod worked_versions
mod worked_whole_actions
mod worked_changes
mod worked_stamps
