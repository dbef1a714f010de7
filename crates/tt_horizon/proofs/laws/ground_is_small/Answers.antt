use Rattle.tt_horizon.proofs.LawProofs.{ground_is_small}
use Rattle.tt_horizon.proofs.laws.ground_is_small.Goals as goal

pub returns : goal.returns
returns c = ground_is_small
