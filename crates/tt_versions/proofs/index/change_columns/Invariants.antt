-- the columns so far have moved the key, and the others are as they were
use Rattle.tt_versions.specs.RowChange.{current_after, other_after}
use Rattle.tt_versions.proofs.MoveLemmas.{MovesUpTo}
use Rattle.tt_versions.proofs.index.change_columns.Given as goal

abbrev pub invariant-loop-column : goal.invariant-loop-column
invariant-loop-column l = MovesUpTo l.key (current_after l.change) (other_after l.change) l.column-index l.initial.column-items l.column-items
