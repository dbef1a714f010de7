-- once the rows of the keys that are left are unsplit, those of all keys are, and the index fits the entries
use Rattle.std.proofs.Common.{◌≡◌, ℤ, is_some}
use Rattle.std.specs.Ordering.{int_cmp}
use Rattle.std.specs.FinMap.Entries as sorted
use Rattle.tt_versions.specs.Sides.{lineage_at}
use Rattle.tt_versions.specs.Index.{IsIndexed}
use Rattle.tt_versions.proofs.UnsplitLemmas.{unsplit_if}
use Rattle.tt_versions.proofs.lineages.IndexedEntries.unsplit.Given as goal

abbrev pub invariant-loop-key : goal.invariant-loop-key
invariant-loop-key l = record {
  unsplits : (q : ℤ) → unsplit_if (is_some (sorted.find int_cmp q l.key-iterator)) l.side (lineage_at l.entries q)
      ≡ unsplit_if (is_some (sorted.find int_cmp q l.fn.self.split_keys)) l.side (lineage_at l.fn.self.entries q);
  indexed : IsIndexed l.index l.fn.self.latest l.entries;
}
