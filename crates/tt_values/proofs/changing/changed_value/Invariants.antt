-- no change so far is about this column
use Rattle.std.proofs.Common.{◌≡◌, drop}
use Rattle.tt_values.specs.Change.{changed_value}
use Rattle.tt_values.proofs.changing.changed_value.Given as goal

abbrev pub invariant-loop-change : goal.invariant-loop-change
invariant-loop-change l = changed_value (drop l.change-index l.changes) l.column l.value ≡ changed_value l.changes l.column l.value
