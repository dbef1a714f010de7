-- the differences so far, no more than are asked for, and those at the keys that are left are those at all keys of the walk
use Rattle.std.proofs.Common.{◌≡◌, ◌≤◌, ◌++◌, length}
use Rattle.tt_versions.specs.Differences.{differences_behind}
use Rattle.tt_versions.proofs.DifferencesLemmas.{differences_among}
use Rattle.tt_versions.proofs.table.Table.differences.Given as goal

abbrev pub invariant-loop-key : goal.invariant-loop-key
invariant-loop-key l = record {
  rows : differences_behind l.differences.items ++ differences_among l.self l.time l.key-iterator ≡ differences_among l.self l.time l.initial.key-iterator;
  few : length (differences_behind l.differences.items) ≤ l.most;
}
