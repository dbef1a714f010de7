use Rattle.tt_values.proofs.LawProofs.{few_writes_are_whole}
use Rattle.tt_values.proofs.laws.few_writes_are_whole.Goals as goal

pub returns : goal.returns
returns c = few_writes_are_whole
