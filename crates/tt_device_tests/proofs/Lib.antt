pub mod ChangeLemmas
pub mod EventLemmas
