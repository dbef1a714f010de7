use Rattle.tt_values.proofs.LawProofs.{undone_actions_stop}
use Rattle.tt_values.proofs.laws.undone_actions_stop.Goals as goal

pub returns : goal.returns
returns c = undone_actions_stop
