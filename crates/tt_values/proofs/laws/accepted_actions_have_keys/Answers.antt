use Rattle.tt_values.proofs.LawProofs.{accepted_actions_have_keys}
use Rattle.tt_values.proofs.laws.accepted_actions_have_keys.Goals as goal

pub returns : goal.returns
returns c = accepted_actions_have_keys
