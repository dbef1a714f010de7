use Rattle.tt_repair_laws.proofs.LawProofs.{untouched_rows_stay}
use Rattle.tt_repair_laws.proofs.laws.untouched_rows_stay.Goals as goal

pub returns : goal.returns
returns c = untouched_rows_stay
