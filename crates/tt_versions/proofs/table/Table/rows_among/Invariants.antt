-- the rows so far and those of the keys that are left are all
use Rattle.std.proofs.Common.{length, ◌≡◌, ◌++◌}
use Rattle.tt_versions.specs.Sides.{side_of, rows_behind}
use Rattle.tt_versions.specs.Keys.{all_of}
use Rattle.tt_versions.proofs.MatchingLemmas.{matching_among}
use Rattle.tt_versions.proofs.table.Table.rows_among.Given as goal

abbrev pub invariant-loop-key : goal.invariant-loop-key
invariant-loop-key l = rows_behind l.rows.items ++ matching_among l.equals (λ k. side_of l.self l.fn.side k l.time) l.left ≡ matching_among l.equals (λ k. side_of l.self l.fn.side k l.time) (all_of l.keys)

abbrev pub decreases-loop-key : goal.decreases-loop-key
decreases-loop-key l = length l.left
