use Rattle.tt_values.proofs.LawProofs.{rows_rise}
use Rattle.tt_values.proofs.laws.rows_rise.Goals as goal

pub returns : goal.returns
returns c = rows_rise
