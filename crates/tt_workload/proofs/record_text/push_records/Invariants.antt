-- the text so far and that of the items that are left are the whole
use Rattle.std.proofs.Common.{◌≡◌, ◌++◌, drop}
use Rattle.std.specs.List.{flat_map}
use Rattle.tt_workload.specs.Records.{line_of_record}
use Rattle.tt_workload.proofs.record_text.push_records.Given as goal

abbrev pub invariant-loop-answered : goal.invariant-loop-answered
invariant-loop-answered l = l.out.items ++ flat_map (line_of_record l.json l.catalog) (drop l.answered-index l.records) ≡ l.fn.out.items ++ flat_map (line_of_record l.json l.catalog) l.records
