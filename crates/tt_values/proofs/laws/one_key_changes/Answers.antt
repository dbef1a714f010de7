use Rattle.tt_values.proofs.LawProofs.{one_key_changes}
use Rattle.tt_values.proofs.laws.one_key_changes.Goals as goal

pub returns : goal.returns
returns c = one_key_changes
