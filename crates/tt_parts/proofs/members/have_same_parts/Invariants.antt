-- where the partitions of the columns that are left are the same, all are
use Rattle.std.proofs.Common.{◌≡◌, ℕ, drop}
use Rattle.tt_parts.specs.Partitions.{parts_from, parts_of}
use Rattle.tt_parts.proofs.members.have_same_parts.Given as goal

abbrev pub invariant-loop-i : goal.invariant-loop-i
invariant-loop-i l = (table : ℕ) → parts_from table l.i (drop l.i l.columns) (drop l.i l.before.values) ≡ parts_from table l.i (drop l.i l.columns) (drop l.i l.after.values)
    → parts_of table l.columns l.before ≡ parts_of table l.columns l.after
