use Rattle.tt_values.proofs.LawProofs.{past_stays}
use Rattle.tt_values.proofs.laws.past_stays.Goals as goal

pub returns : goal.returns
returns c = past_stays
