use Rattle.tt_values.proofs.LawProofs.{later_slots_change_nothing}
use Rattle.tt_values.proofs.laws.later_slots_change_nothing.Goals as goal

pub returns : goal.returns
returns c = later_slots_change_nothing
