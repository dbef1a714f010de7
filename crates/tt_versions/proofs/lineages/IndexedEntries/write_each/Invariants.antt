-- the rows that are left lead to the table with all, and what is stored so far is found; the same rows are split
use Rattle.std.proofs.Common.{◌≡◌}
use Rattle.std.specs.List.{All}
use Rattle.tt_versions.specs.Sides.{is_split, with_writes, StaysSplit}
use Rattle.tt_versions.specs.IndexedEntries.{IsConsistent}
use Rattle.tt_versions.proofs.lineages.IndexedEntries.write_each.Given as goal

abbrev pub invariant-loop-key : goal.invariant-loop-key
invariant-loop-key l = record {
  writes : with_writes l.side l.key-iterator.rest.items l.time l.self.entries ≡ with_writes l.side l.fn.rows.items l.time l.fn.self.entries;
  stored : IsConsistent l.self;
  split : is_split l.self.entries ≡ is_split l.fn.self.entries;
  left : All (λ e. StaysSplit l.side (is_split l.fn.self.entries) e.0) l.key-iterator.rest.items;
}
