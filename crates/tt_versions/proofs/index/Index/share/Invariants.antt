-- the columns shared so far and what is left are all
use Rattle.std.proofs.Common.{◌≡◌, ◌++◌, drop}
use Rattle.tt_versions.proofs.index.Index.share.Given as goal

abbrev pub invariant-loop-column : goal.invariant-loop-column
invariant-loop-column l = l.columns.items ++ drop l.column-index l.column-items ≡ l.column-items
