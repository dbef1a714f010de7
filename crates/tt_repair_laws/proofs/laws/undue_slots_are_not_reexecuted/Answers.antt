use Rattle.tt_repair_laws.proofs.LawProofs.{undue_slots_are_not_reexecuted}
use Rattle.tt_repair_laws.proofs.laws.undue_slots_are_not_reexecuted.Goals as goal

pub returns : goal.returns
returns c = undue_slots_are_not_reexecuted
