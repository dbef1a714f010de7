-- the tables so far show the side, and the others are as they were
use Rattle.tt_generations.proofs.UnsplitLemmas.{ShowsSideBefore}
use Rattle.tt_generations.proofs.rows.unsplit_tables.Given as goal

abbrev pub invariant-loop-table : goal.invariant-loop-table
invariant-loop-table l = ShowsSideBefore l.side l.table-index l.initial.table-items l.table-items
