use Rattle.tt_values.proofs.LawProofs.{action_of_one_write}
use Rattle.tt_values.proofs.laws.action_of_one_write.Goals as goal

pub returns : goal.returns
returns c = action_of_one_write
