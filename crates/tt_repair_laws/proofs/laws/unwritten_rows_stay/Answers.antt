use Rattle.tt_repair_laws.proofs.LawProofs.{unwritten_rows_stay}
use Rattle.tt_repair_laws.proofs.laws.unwritten_rows_stay.Goals as goal

pub returns : goal.returns
returns c = unwritten_rows_stay
