-- the lines so far and those of the slots that are left are all
use Rattle.std.proofs.Common.{◌≡◌, ◌++◌}
use Rattle.tt_workload.specs.CauseLines.{redone_lines}
use Rattle.tt_workload.proofs.CauseLineLemmas.{lines_behind}
use Rattle.tt_workload.proofs.causes.push_redone.Given as goal

abbrev pub invariant-loop-earlier : goal.invariant-loop-earlier
invariant-loop-earlier l =
    l.out.items ++ lines_behind l.fn.json l.db l.repair l.earlier ≡ l.fn.out.items ++ redone_lines l.fn.json l.db l.repair
