use Rattle.tt_horizon.proofs.LawProofs.{ground_leaves_content}
use Rattle.tt_horizon.proofs.laws.ground_leaves_the_content.Goals as goal

pub returns : goal.returns
returns c = ground_leaves_content
