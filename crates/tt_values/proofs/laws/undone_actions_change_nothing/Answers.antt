use Rattle.tt_values.proofs.LawProofs.{undone_actions_change_nothing}
use Rattle.tt_values.proofs.laws.undone_actions_change_nothing.Goals as goal

pub returns : goal.returns
returns c = undone_actions_change_nothing
