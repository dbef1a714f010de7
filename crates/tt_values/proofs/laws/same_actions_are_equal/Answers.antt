use Rattle.tt_values.proofs.LawProofs.{same_actions_are_equal}
use Rattle.tt_values.proofs.laws.same_actions_are_equal.Goals as goal

pub returns : goal.returns
returns c = same_actions_are_equal
