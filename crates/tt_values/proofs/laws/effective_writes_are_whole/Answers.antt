use Rattle.tt_values.proofs.LawProofs.{effective_writes_are_whole}
use Rattle.tt_values.proofs.laws.effective_writes_are_whole.Goals as goal

pub returns : goal.returns
returns c = effective_writes_are_whole
