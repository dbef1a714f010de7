-- the partitions so far and those of the columns that are left are all
use Rattle.std.proofs.Common.{◌≡◌, ◌++◌, drop}
use Rattle.tt_parts.specs.Partitions.{parts_from, parts_of}
use Rattle.tt_parts.proofs.parts.parts_of.Given as goal

abbrev pub invariant-loop-i : goal.invariant-loop-i
invariant-loop-i l = l.parts ++ parts_from l.table l.i (drop l.i l.columns) (drop l.i l.row.values) ≡ parts_of l.table l.columns l.row
