use Rattle.tt_repair_laws.proofs.LawProofs.{dirty_rows_are_as_edited}
use Rattle.tt_repair_laws.proofs.laws.dirty_rows_are_as_edited.Goals as goal

pub returns : goal.returns
returns c = dirty_rows_are_as_edited
