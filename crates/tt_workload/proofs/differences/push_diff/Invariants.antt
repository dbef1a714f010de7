-- the lines so far and those of the tables that are left are all
use Rattle.std.proofs.Common.{◌≡◌, ◌++◌}
use Rattle.tt_workload.specs.DiffLines.{diff_lines}
use Rattle.tt_workload.proofs.DiffLineLemmas.{lines_from}
use Rattle.tt_workload.proofs.differences.push_diff.Given as goal

abbrev pub invariant-loop-table : goal.invariant-loop-table
invariant-loop-table l = l.out.items ++ lines_from l.fn.json l.db l.repair l.table ≡ l.fn.out.items ++ diff_lines l.fn.json l.db l.repair
