-- the edits so far have no fault
use Rattle.std.proofs.Common.{◌≡◌, drop}
use Rattle.tt_db.specs.State.{edits_fault}
use Rattle.tt_db.proofs.refusals.edits_fault.Given as goal

abbrev pub invariant-loop-edit : goal.invariant-loop-edit
invariant-loop-edit l = edits_fault l.catalog l.edits ≡ edits_fault l.catalog (drop l.edit-index l.edits)
