use Rattle.tt_values.proofs.LawProofs.{actions_follow}
use Rattle.tt_values.proofs.laws.actions_follow.Goals as goal

pub returns : goal.returns
returns c = actions_follow
