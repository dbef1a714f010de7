use Rattle.tt_repair_laws.proofs.LawProofs.{unedited_slots_stay}
use Rattle.tt_repair_laws.proofs.laws.unedited_slots_stay.Goals as goal

pub returns : goal.returns
returns c = unedited_slots_stay
