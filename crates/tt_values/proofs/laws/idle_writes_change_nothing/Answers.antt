use Rattle.tt_values.proofs.LawProofs.{idle_writes_change_nothing}
use Rattle.tt_values.proofs.laws.idle_writes_change_nothing.Goals as goal

pub returns : goal.returns
returns c = idle_writes_change_nothing
