use Rattle.tt_causes.proofs.LawProofs.{different_rows_are_dirty}
use Rattle.tt_causes.proofs.laws.different_rows_are_dirty.Goals as goal

pub returns : goal.returns
returns c = different_rows_are_dirty
