use Rattle.tt_horizon.proofs.LawProofs.{forgetting_keeps_repairs}
use Rattle.tt_horizon.proofs.laws.forgetting_keeps_repairs.Goals as goal

pub returns : goal.returns
returns c = forgetting_keeps_repairs
