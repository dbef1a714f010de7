use Rattle.tt_repair_laws.proofs.LawProofs.{nothing_is_dirty_at_first}
use Rattle.tt_repair_laws.proofs.laws.nothing_is_dirty_at_first.Goals as goal

pub returns : goal.returns
returns c = nothing_is_dirty_at_first
