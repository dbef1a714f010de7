-- the rows so far, no more than are asked for, and those of the keys that are left are all after the key
use Rattle.std.proofs.Common.{◌≡◌, ◌≤◌, ◌++◌, length}
use Rattle.tt_versions.specs.Sides.{side_of, rows_behind}
use Rattle.tt_versions.specs.Pages.{those_after}
use Rattle.tt_versions.specs.Keys.{all_of}
use Rattle.tt_versions.proofs.MatchingLemmas.{matching_among}
use Rattle.tt_versions.proofs.table.Table.page_among.Given as goal

abbrev pub invariant-loop-key : goal.invariant-loop-key
invariant-loop-key l = record {
  rows : rows_behind l.rows.items ++ matching_among l.query.equals.now (λ k. side_of l.self l.query.side k l.query.time) l.left ≡ matching_among l.query.equals.now (λ k. side_of l.self l.query.side k l.query.time) (those_after l.query.after (all_of l.keys));
  few : length (rows_behind l.rows.items) ≤ l.query.most;
}

abbrev pub decreases-loop-key : goal.decreases-loop-key
decreases-loop-key l = length l.left
