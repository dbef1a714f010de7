use Rattle.tt_repair_laws.proofs.LawProofs.{next_side_begins_as_current}
use Rattle.tt_repair_laws.proofs.laws.next_side_begins_as_the_current_one.Goals as goal

pub returns : goal.returns
returns c = next_side_begins_as_current
