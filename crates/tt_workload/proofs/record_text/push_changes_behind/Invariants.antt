-- the text so far and that of the items that are left are the whole
use Rattle.std.proofs.Common.{◌≡◌, ◌++◌, drop}
use Rattle.std.specs.List.{flat_map}
use Rattle.tt_workload.specs.Records.{line_of_change}
use Rattle.tt_workload.proofs.record_text.push_changes_behind.Given as goal

abbrev pub invariant-loop-change : goal.invariant-loop-change
invariant-loop-change l = l.out.items ++ flat_map (line_of_change l.json l.catalog l.records l.label) (drop l.change-index l.changes) ≡ l.fn.out.items ++ flat_map (line_of_change l.json l.catalog l.records l.label) l.changes
