use Rattle.tt_values.proofs.LawProofs.{added_slot_is_next}
use Rattle.tt_values.proofs.laws.added_slot_is_next.Goals as goal

pub returns : goal.returns
returns c = added_slot_is_next
