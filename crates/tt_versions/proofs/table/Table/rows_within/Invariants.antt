-- the rows so far and those of what is left, by rising key, are all from the range's lower bound on
use Rattle.std.proofs.Common.{◌≡◌, ◌++◌, IsTrue}
use Rattle.std.specs.Ordering.{int_cmp}
use Rattle.std.specs.FinMap.Entries as sorted
use Rattle.tt_versions.specs.Sides.{rows_behind}
use Rattle.tt_versions.specs.Pages.{those_after}
use Rattle.tt_versions.proofs.MatchingLemmas.{matching_of}
use Rattle.tt_versions.proofs.table.Table.rows_within.Given as goal

abbrev pub invariant-loop-key : goal.invariant-loop-key
invariant-loop-key l = record {
  rows : rows_behind l.rows.items ++ matching_of l.equals l.time l.fn.side l.key-iterator ≡ matching_of l.equals l.time l.fn.side (those_after l.range.after l.self);
  rises : IsTrue (sorted.is_sorted int_cmp l.key-iterator);
}
