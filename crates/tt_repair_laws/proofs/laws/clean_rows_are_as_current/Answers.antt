use Rattle.tt_repair_laws.proofs.LawProofs.{clean_rows_are_as_current}
use Rattle.tt_repair_laws.proofs.laws.clean_rows_are_as_current.Goals as goal

pub returns : goal.returns
returns c = clean_rows_are_as_current
