use Rattle.tt_causes.proofs.LawProofs.{what_is_dirty_stays_dirty}
use Rattle.tt_causes.proofs.laws.what_is_dirty_stays_dirty.Goals as goal

pub returns : goal.returns
returns c = what_is_dirty_stays_dirty
