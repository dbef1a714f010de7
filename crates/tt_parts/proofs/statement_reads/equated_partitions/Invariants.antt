-- the partitions so far and those of the equalities that are left are all
use Rattle.std.proofs.Common.{◌≡◌, ◌++◌, drop}
use Rattle.tt_parts.specs.Partitions.{equated_partitions}
use Rattle.tt_parts.proofs.statement_reads.equated_partitions.Given as goal

abbrev pub invariant-loop-equal : goal.invariant-loop-equal
invariant-loop-equal l = l.partitions ++ equated_partitions l.table l.columns (drop l.equal-index l.equals) ≡ equated_partitions l.table l.columns l.equals
