use Rattle.tt_repair_laws.proofs.LawProofs.{due_slots_are_reexecuted}
use Rattle.tt_repair_laws.proofs.laws.due_slots_are_reexecuted.Goals as goal

pub returns : goal.returns
returns c = due_slots_are_reexecuted
