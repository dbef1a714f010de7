use Rattle.tt_horizon.proofs.LawProofs.{ground_is_never_due}
use Rattle.tt_horizon.proofs.laws.ground_is_never_due.Goals as goal

pub returns : goal.returns
returns c = ground_is_never_due
