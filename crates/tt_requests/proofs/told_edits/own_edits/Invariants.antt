-- the edits so far are of slots of the database
use Rattle.std.proofs.Common.{◌≡◌, map, take}
use Rattle.tt_requests.specs.ToldEdits.{own_edit}
use Rattle.tt_requests.proofs.told_edits.own_edits.Given as goal

abbrev pub invariant-loop-edit : goal.invariant-loop-edit
invariant-loop-edit l = l.own.items ≡ map (own_edit l.numbering) (take l.edit-index l.edits)
