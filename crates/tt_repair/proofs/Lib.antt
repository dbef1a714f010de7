pub mod GrowthLemmas
pub mod RepairLemmas
