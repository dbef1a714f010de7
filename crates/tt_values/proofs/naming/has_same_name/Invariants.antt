-- no column before i has the same name as a later one
use Rattle.std.proofs.Common.{◌≡◌, drop}
use Rattle.tt_values.specs.Tables.{has_same_name}
use Rattle.tt_values.proofs.naming.has_same_name.Given as goal

abbrev pub invariant-loop-i : goal.invariant-loop-i
invariant-loop-i l = has_same_name (drop l.i l.columns) ≡ has_same_name l.columns
