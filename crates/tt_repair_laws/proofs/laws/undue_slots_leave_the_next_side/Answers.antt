use Rattle.tt_repair_laws.proofs.LawProofs.{undue_slots_leave_next_side}
use Rattle.tt_repair_laws.proofs.laws.undue_slots_leave_the_next_side.Goals as goal

pub returns : goal.returns
returns c = undue_slots_leave_next_side
