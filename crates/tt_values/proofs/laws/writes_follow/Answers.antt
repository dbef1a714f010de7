use Rattle.tt_values.proofs.LawProofs.{writes_follow}
use Rattle.tt_values.proofs.laws.writes_follow.Goals as goal

pub returns : goal.returns
returns c = writes_follow
