-- no change before i is about the same column as a later one
use Rattle.std.proofs.Common.{◌≡◌, drop}
use Rattle.tt_values.specs.Check.{changes_twice}
use Rattle.tt_values.proofs.checking.changes.changes_twice.Given as goal

abbrev pub invariant-loop-i : goal.invariant-loop-i
invariant-loop-i l = changes_twice (drop l.i l.changes) ≡ changes_twice l.changes
