use Rattle.tt_values.proofs.LawProofs.{action_leaves_its_last_content}
use Rattle.tt_values.proofs.laws.action_leaves_its_last_content.Goals as goal

pub returns : goal.returns
returns c = action_leaves_its_last_content
