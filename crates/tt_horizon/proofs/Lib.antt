mod SlotsLemmas
mod GroundSlotsLemmas
mod EditsLemmas
mod UndueLemmas
mod RepairsLemmas
mod PiecesLemmas
mod InsertsLemmas
mod RowCountsLemmas
mod AcceptedLemmas
mod RowLemmas
mod GroundLemmas
mod HistoryLemmas
mod WorkerLemmas
mod ForgettingLemmas
mod LayingLemmas
mod BehindLemmas
pub mod LawProofs
mod worked_rows
