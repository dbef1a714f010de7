use Rattle.tt_repair_laws.proofs.LawProofs.{due_slots_dirty_reexecuted_rows}
use Rattle.tt_repair_laws.proofs.laws.due_slots_dirty_the_reexecuted_rows.Goals as goal

pub returns : goal.returns
returns c = due_slots_dirty_reexecuted_rows
