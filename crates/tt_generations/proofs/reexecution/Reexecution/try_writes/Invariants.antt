-- what tries the writes that are left has tried all, and each write so far added one row at most
use Rattle.std.proofs.Common.{Bool, ◌+◌, drop}
use Rattle.tt_generations.specs.ActionRun.{most_rows}
use Rattle.tt_generations.specs.Reexecution.{ReexecutionOnRows, reexecution_on, TriesNextWrites, IsUnderWayWithFew}
use Rattle.tt_generations.proofs.reexecution.Reexecution.try_writes.Given as goal

abbrev pub invariant-loop-write : goal.invariant-loop-write
invariant-loop-write l = record {
  done : (after : ReexecutionOnRows) (all : Bool) → TriesNextWrites l.time (drop l.write-index l.writes) (reexecution_on l.rows l.self) after all → TriesNextWrites l.time l.writes (reexecution_on l.fn.rows l.fn.self) after all;
  few : IsUnderWayWithFew l.time (reexecution_on l.rows l.self) (most_rows + l.write-index);
}
