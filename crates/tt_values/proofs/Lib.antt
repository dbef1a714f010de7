mod Positions
mod FaultLemmas
mod CatalogLemmas
mod ContentLemmas
mod RowWritesLemmas
mod CheckLemmas
mod WritesLemmas
mod ActionLemmas
mod SameLemmas
pub mod LawProofs
pub mod worked_rows
