pub mod BuildLemmas
pub mod CarryingOutLemmas
pub mod RunningLemmas
pub mod CommandLemmas
pub mod FlagLemmas
pub mod NumberLemmas
pub mod RowLemmas
pub mod SubcommandLemmas
pub mod WalkLemmas
mod worked_rows
