use Rattle.tt_values.proofs.LawProofs.{written_rows_are_touched}
use Rattle.tt_values.proofs.laws.written_rows_are_touched.Goals as goal

pub returns : goal.returns
returns c = written_rows_are_touched
