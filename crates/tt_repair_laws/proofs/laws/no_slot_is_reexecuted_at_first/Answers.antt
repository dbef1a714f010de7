use Rattle.tt_repair_laws.proofs.LawProofs.{no_slot_is_reexecuted_at_first}
use Rattle.tt_repair_laws.proofs.laws.no_slot_is_reexecuted_at_first.Goals as goal

pub returns : goal.returns
returns c = no_slot_is_reexecuted_at_first
