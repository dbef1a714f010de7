-- no two of the edits so far are for one slot
use Rattle.std.proofs.Common.{◌≡◌, [], take, drop}
use Rattle.tt_db.specs.State.{slot_edited_twice}
use Rattle.tt_db.proofs.refusals.slot_edited_twice.Given as goal

abbrev pub invariant-loop-position : goal.invariant-loop-position
invariant-loop-position l = slot_edited_twice [] l.edits ≡ slot_edited_twice (take l.position l.edits) (drop l.position l.edits)
