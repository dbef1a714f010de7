pub mod LogBalance
pub mod LogRules
pub mod MapBranchLemmas
pub mod MapEntriesLemmas
pub mod MapHalvesLemmas
pub mod MapJoinLemmas
pub mod MapReplacingLemmas
pub mod MapWalkLemmas
