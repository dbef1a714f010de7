use Rattle.tt_values.proofs.LawProofs.{accepted_updates_keep_keys}
use Rattle.tt_values.proofs.laws.accepted_updates_keep_keys.Goals as goal

pub returns : goal.returns
returns c = accepted_updates_keep_keys
