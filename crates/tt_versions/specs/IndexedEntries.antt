-- The lineages of a table, and what is stored with them.
use Rattle.tt_versions.specs.declared.lineages.IndexedEntries.{IndexedEntries}
use Rattle.tt_versions.specs.Sides.{HasSplitKeys}
use Rattle.tt_versions.specs.Index.{IsIndexed}

-- the set has the keys of the split rows, and the index fits the lineages
pub record IsConsistent (s : IndexedEntries) : Type 0 where
  pub split : HasSplitKeys s.split_keys s.entries
  pub indexed : IsIndexed s.index s.latest s.entries
