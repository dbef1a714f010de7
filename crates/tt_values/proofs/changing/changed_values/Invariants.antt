-- the new values so far, and those of the remaining columns, are all of them
use Rattle.std.proofs.Common.{◌≡◌, ◌++◌, drop}
use Rattle.tt_values.specs.Change.{changed_values}
use Rattle.tt_values.proofs.changing.changed_values.Given as goal

abbrev pub invariant-loop-i : goal.invariant-loop-i
invariant-loop-i l = l.new_values.items ++ changed_values l.changes l.i (drop l.i l.values) ≡ changed_values l.changes 0 l.values
