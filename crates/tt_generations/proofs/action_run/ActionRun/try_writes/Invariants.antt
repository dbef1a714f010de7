-- what tries the writes that are left has tried all, and each write so far added one row at most
use Rattle.std.proofs.Common.{Bool, ◌+◌, drop}
use Rattle.tt_versions.specs.declared.side.Side.TheVariants.{Current}
use Rattle.tt_generations.specs.Rows.{HasFewRows, KeepsSplitRows}
use Rattle.tt_generations.specs.ActionRun.{RunOnRows, run_on, TriesWrites, most_rows}
use Rattle.tt_generations.proofs.action_run.ActionRun.try_writes.Given as goal

abbrev pub invariant-loop-write : goal.invariant-loop-write
invariant-loop-write l = record {
  done : (after : RunOnRows) (all : Bool) → TriesWrites l.time (drop l.write-index l.writes) (run_on l.rows l.self) after all → TriesWrites l.time l.writes (run_on l.fn.rows l.fn.self) after all;
  few : HasFewRows l.rows Current l.time (most_rows + l.write-index);
  split : KeepsSplitRows l.fn.rows l.rows;
}
