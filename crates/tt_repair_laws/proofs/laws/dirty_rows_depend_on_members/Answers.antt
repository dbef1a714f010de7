use Rattle.tt_repair_laws.proofs.LawProofs.{dirty_rows_depend_on_members}
use Rattle.tt_repair_laws.proofs.laws.dirty_rows_depend_on_members.Goals as goal

pub returns : goal.returns
returns c = dirty_rows_depend_on_members
