-- the text so far and that of the items that are left are the whole
use Rattle.std.proofs.Common.{◌≡◌, ◌++◌, drop}
use Rattle.std.specs.List.{flat_map}
use Rattle.tt_workload.specs.Printing.{spaced_row}
use Rattle.tt_workload.proofs.printing.push_spaced_rows.Given as goal

abbrev pub invariant-loop-row : goal.invariant-loop-row
invariant-loop-row l = l.out.items ++ flat_map spaced_row (drop l.row-index l.rows) ≡ l.fn.out.items ++ flat_map spaced_row l.rows
