use Rattle.tt_causes.proofs.LawProofs.{due_slots_have_a_cause}
use Rattle.tt_causes.proofs.laws.due_slots_have_a_cause.Goals as goal

pub returns : goal.returns
returns c = due_slots_have_a_cause
