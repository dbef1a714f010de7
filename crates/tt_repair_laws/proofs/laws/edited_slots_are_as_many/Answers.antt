use Rattle.tt_repair_laws.proofs.LawProofs.{edited_slots_are_as_many}
use Rattle.tt_repair_laws.proofs.laws.edited_slots_are_as_many.Goals as goal

pub returns : goal.returns
returns c = edited_slots_are_as_many
