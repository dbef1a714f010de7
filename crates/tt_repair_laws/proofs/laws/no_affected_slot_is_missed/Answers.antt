use Rattle.tt_repair_laws.proofs.LawProofs.{no_affected_slot_is_missed}
use Rattle.tt_repair_laws.proofs.laws.no_affected_slot_is_missed.Goals as goal

pub returns : goal.returns
returns c = no_affected_slot_is_missed
