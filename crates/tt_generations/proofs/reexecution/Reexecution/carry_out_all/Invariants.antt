-- what carries out the writes that are left has carried out all, and each write so far added one row at most
use Rattle.std.proofs.Common.{◌+◌, drop}
use Rattle.tt_generations.specs.ActionRun.{most_rows}
use Rattle.tt_generations.specs.Reexecution.{ReexecutionOnRows, reexecution_on, ReexecutesWrites, IsUnderWayWithFew}
use Rattle.tt_generations.proofs.reexecution.Reexecution.carry_out_all.Given as goal

abbrev pub invariant-loop-write : goal.invariant-loop-write
invariant-loop-write l = record {
  done : (after : ReexecutionOnRows) → ReexecutesWrites l.time (drop l.write-index l.writes) (reexecution_on l.rows l.self) after → ReexecutesWrites l.time l.writes (reexecution_on l.fn.rows l.fn.self) after;
  few : IsUnderWayWithFew l.time (reexecution_on l.rows l.self) (most_rows + l.write-index);
}
