-- the lines so far and those of the rows that are left are all
use Rattle.std.proofs.Common.{◌≡◌, ◌++◌, drop}
use Rattle.std.specs.List.{flat_map}
use Rattle.tt_generations.specs.RowChanges.{change_told}
use Rattle.tt_workload.specs.DiffLines.{diff_line}
use Rattle.tt_workload.proofs.differences.push_table_diff.Given as goal

abbrev pub invariant-loop-change : goal.invariant-loop-change
invariant-loop-change l =
    l.out.items ++ flat_map (λ c. diff_line l.json l.catalog l.table (change_told c)) (drop l.change-index l.changes)
    ≡ l.fn.out.items ++ flat_map (λ c. diff_line l.json l.catalog l.table (change_told c)) l.changes
