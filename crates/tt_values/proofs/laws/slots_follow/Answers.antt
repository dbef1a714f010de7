use Rattle.tt_values.proofs.LawProofs.{slots_follow}
use Rattle.tt_values.proofs.laws.slots_follow.Goals as goal

pub returns : goal.returns
returns c = slots_follow
