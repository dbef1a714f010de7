use Rattle.tt_values.proofs.LawProofs.{added_slot_leaves_past}
use Rattle.tt_values.proofs.laws.added_slot_leaves_past.Goals as goal

pub returns : goal.returns
returns c = added_slot_leaves_past
