pub mod BaseLemmas
pub mod SoundLemmas
pub mod OpeningLemmas
pub mod ReadBackLemmas
pub mod LineLemmas
pub mod TurnLemmas
pub mod AnsweringLemmas
pub mod LoggedLemmas
pub mod ReopeningLemmas
pub mod TogetherLemmas
pub mod RecoveryLemmas
mod worked_sessions
