use Rattle.tt_horizon.proofs.LawProofs.{forgetting_keeps_contents}
use Rattle.tt_horizon.proofs.laws.forgetting_keeps_contents.Goals as goal

pub returns : goal.returns
returns c = forgetting_keeps_contents
