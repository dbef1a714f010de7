use Rattle.tt_repair_laws.proofs.LawProofs.{clean_rows_agree}
use Rattle.tt_repair_laws.proofs.laws.clean_rows_agree.Goals as goal

pub returns : goal.returns
returns c = clean_rows_agree
