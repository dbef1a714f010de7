-- the slots of the edits so far are there
use Rattle.std.proofs.Common.{◌≡◌, drop}
use Rattle.tt_requests.specs.ToldEdits.{missing_slot}
use Rattle.tt_requests.proofs.told_edits.missing_slot.Given as goal

abbrev pub invariant-loop-edit : goal.invariant-loop-edit
invariant-loop-edit l = missing_slot l.numbering l.now l.edits ≡ missing_slot l.numbering l.now (drop l.edit-index l.edits)
