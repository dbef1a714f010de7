use Rattle.tt_repair_laws.proofs.LawProofs.{later_slots_change_no_repair}
use Rattle.tt_repair_laws.proofs.laws.later_slots_change_no_repair.Goals as goal

pub returns : goal.returns
returns c = later_slots_change_no_repair
