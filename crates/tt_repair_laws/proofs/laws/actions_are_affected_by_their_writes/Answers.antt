use Rattle.tt_repair_laws.proofs.LawProofs.{actions_are_affected_by_their_writes}
use Rattle.tt_repair_laws.proofs.laws.actions_are_affected_by_their_writes.Goals as goal

pub returns : goal.returns
returns c = actions_are_affected_by_their_writes
