use Rattle.tt_values.proofs.LawProofs.{action_writes_each_row_once}
use Rattle.tt_values.proofs.laws.action_writes_each_row_once.Goals as goal

pub returns : goal.returns
returns c = action_writes_each_row_once
