-- the rows so far, no more than are asked for, and those of what is left, by rising key, are all from the start of the walk on
use Rattle.std.proofs.Common.{◌≡◌, ◌≤◌, ◌++◌, IsTrue, length}
use Rattle.std.specs.Ordering.{int_cmp}
use Rattle.std.specs.FinMap.Entries as sorted
use Rattle.tt_versions.specs.Sides.{rows_behind}
use Rattle.tt_versions.specs.Pages.{those_after}
use Rattle.tt_versions.proofs.MatchingLemmas.{matching_of}
use Rattle.tt_versions.proofs.table.Table.page_within.Given as goal

abbrev pub invariant-loop-key : goal.invariant-loop-key
invariant-loop-key l = record {
  rows : rows_behind l.rows.items ++ matching_of l.query.equals.now l.query.time l.query.side l.key-iterator ≡ matching_of l.query.equals.now l.query.time l.query.side (those_after l.ahead.after l.self);
  few : length (rows_behind l.rows.items) ≤ l.query.most;
  rises : IsTrue (sorted.is_sorted int_cmp l.key-iterator);
}
