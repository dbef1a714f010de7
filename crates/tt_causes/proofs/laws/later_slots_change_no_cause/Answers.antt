use Rattle.tt_causes.proofs.LawProofs.{later_slots_change_no_cause}
use Rattle.tt_causes.proofs.laws.later_slots_change_no_cause.Goals as goal

pub returns : goal.returns
returns c = later_slots_change_no_cause
