use Rattle.tt_repair_laws.proofs.LawProofs.{written_rows_are_touched}
use Rattle.tt_repair_laws.proofs.laws.written_rows_are_touched.Goals as goal

pub returns : goal.returns
returns c = written_rows_are_touched
