use Rattle.tt_repair_laws.proofs.LawProofs.{next_side_ends_as_edited_slots}
use Rattle.tt_repair_laws.proofs.laws.next_side_ends_as_the_edited_slots.Goals as goal

pub returns : goal.returns
returns c = next_side_ends_as_edited_slots
