-- the edits so far and those that are left are all
use Rattle.std.proofs.Common.{◌≡◌, ◌++◌, drop, map}
use Rattle.tt_workload.specs.History.{edit_of_slot}
use Rattle.tt_workload.proofs.repair.edits_of_slots.Given as goal

abbrev pub invariant-loop-edit : goal.invariant-loop-edit
invariant-loop-edit l = l.list.items ++ map (edit_of_slot l.records) (drop l.edit-index l.edits) ≡ map (edit_of_slot l.records) l.edits
