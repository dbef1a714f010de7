use Rattle.tt_repair_laws.proofs.LawProofs.{later_slots_leave_dirty_rows}
use Rattle.tt_repair_laws.proofs.laws.later_slots_leave_dirty_rows.Goals as goal

pub returns : goal.returns
returns c = later_slots_leave_dirty_rows
