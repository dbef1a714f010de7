-- the slots of the edits so far are there
use Rattle.std.proofs.Common.{◌≡◌, drop}
use Rattle.tt_db.specs.State.{missing_slot}
use Rattle.tt_db.proofs.refusals.missing_slot.Given as goal

abbrev pub invariant-loop-edit : goal.invariant-loop-edit
invariant-loop-edit l = missing_slot l.slots l.edits ≡ missing_slot l.slots (drop l.edit-index l.edits)
