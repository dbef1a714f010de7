pub mod LineLemmas
pub mod MomentLemmas
mod PendingLemmas
pub mod ReadingLemmas
mod RenewalLemmas
mod RestLemmas
mod ShowLemmas
mod StepLemmas
pub mod SyncLemmas
mod TornLemmas
mod UncleanLemmas
mod WriteLemmas
mod ZeroLemmas
