-- Once no key is left, all rows are unsplit, and no key is that of a split row.
use Rattle.tt_versions.proofs.UnsplitLemmas.{unsplits_rows, HasSplitKeys-unsplit}
use Rattle.tt_versions.proofs.lineages.IndexedEntries.unsplit.Goals as goal

pub returns-clause-entries : goal.returns-clause-entries
returns-clause-entries c =
    let before = c.args.self.now in
    unsplits_rows c.args.side before.split_keys before.entries c.loop-key.entries c.requires.split (rw c.in-None.ensures.steps.0 at c.loop-key.invariant.unsplits)

pub returns-clause-stored : goal.returns-clause-stored
returns-clause-stored c =
    let before = c.args.self.now in
    let all = returns-clause-entries c in
    record {
      split = rw c.new.ensures (HasSplitKeys-unsplit before.entries c.loop-key.entries c.args.side all);
      indexed = c.loop-key.invariant.indexed;
    }
