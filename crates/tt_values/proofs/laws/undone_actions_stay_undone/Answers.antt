use Rattle.tt_values.proofs.LawProofs.{undone_actions_stay_undone}
use Rattle.tt_values.proofs.laws.undone_actions_stay_undone.Goals as goal

pub returns : goal.returns
returns c = undone_actions_stay_undone
