use Rattle.tt_repair_laws.proofs.LawProofs.{edited_slot_is_next}
use Rattle.tt_repair_laws.proofs.laws.edited_slot_is_next.Goals as goal

pub returns : goal.returns
returns c = edited_slot_is_next
