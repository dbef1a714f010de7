use Rattle.tt_values.proofs.LawProofs.{earlier_slots_stay}
use Rattle.tt_values.proofs.laws.earlier_slots_stay.Goals as goal

pub returns : goal.returns
returns c = earlier_slots_stay
