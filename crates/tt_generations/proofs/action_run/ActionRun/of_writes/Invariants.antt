-- what carries out the writes that are left has carried out all, and each write so far added one row at most
use Rattle.std.proofs.Common.{◌+◌, drop}
use Rattle.tt_values.specs.Action.{action_of}
use Rattle.tt_versions.specs.declared.side.Side.TheVariants.{Current}
use Rattle.tt_generations.specs.Rows.{HasFewRows, KeepsSplitRows}
use Rattle.tt_generations.specs.ActionRun.{RunOnRows, run_on, CarriesOut, CarriesOutAction, most_rows}
use Rattle.tt_generations.proofs.action_run.ActionRun.of_writes.Given as goal

abbrev pub invariant-loop-write : goal.invariant-loop-write
invariant-loop-write l = record {
  done : (after : RunOnRows) → CarriesOut l.time (drop l.write-index l.writes) (run_on l.rows l.run) after → CarriesOutAction l.time (action_of l.writes) l.fn.rows after;
  few : HasFewRows l.rows Current l.time (most_rows + l.write-index);
  split : KeepsSplitRows l.fn.rows l.rows;
}
