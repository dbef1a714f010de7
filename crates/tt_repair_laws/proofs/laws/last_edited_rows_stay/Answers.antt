use Rattle.tt_repair_laws.proofs.LawProofs.{last_edited_rows_stay}
use Rattle.tt_repair_laws.proofs.laws.last_edited_rows_stay.Goals as goal

pub returns : goal.returns
returns c = last_edited_rows_stay
