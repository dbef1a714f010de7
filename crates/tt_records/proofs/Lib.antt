pub mod ChangesLemmas
pub mod NextLemmas
pub mod SlotsInOrderLemmas
