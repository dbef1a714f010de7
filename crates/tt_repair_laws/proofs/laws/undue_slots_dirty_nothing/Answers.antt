use Rattle.tt_repair_laws.proofs.LawProofs.{undue_slots_dirty_nothing}
use Rattle.tt_repair_laws.proofs.laws.undue_slots_dirty_nothing.Goals as goal

pub returns : goal.returns
returns c = undue_slots_dirty_nothing
