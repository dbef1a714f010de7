use Rattle.tt_values.proofs.LawProofs.{last_content_stays}
use Rattle.tt_values.proofs.laws.last_content_stays.Goals as goal

pub returns : goal.returns
returns c = last_content_stays
