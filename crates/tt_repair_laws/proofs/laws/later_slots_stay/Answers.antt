use Rattle.tt_repair_laws.proofs.LawProofs.{later_slots_stay}
use Rattle.tt_repair_laws.proofs.laws.later_slots_stay.Goals as goal

pub returns : goal.returns
returns c = later_slots_stay
