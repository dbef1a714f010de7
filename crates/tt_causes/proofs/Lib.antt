pub mod SearchLemmas
pub mod DirtyLemmas
pub mod NamedLemmas
pub mod CausesLemmas
pub mod NumbersLemmas
pub mod DifferencesLemmas
pub mod LawProofs
mod worked_rows
