-- the tables shared so far and what is left are all
use Rattle.std.proofs.Common.{◌≡◌, ◌++◌, drop}
use Rattle.tt_generations.proofs.rows.Rows.share.Given as goal

abbrev pub invariant-loop-table : goal.invariant-loop-table
invariant-loop-table l = l.tables.items ++ drop l.table-index l.table-items ≡ l.table-items
