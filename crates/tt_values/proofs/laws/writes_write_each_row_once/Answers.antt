use Rattle.tt_values.proofs.LawProofs.{writes_write_each_row_once}
use Rattle.tt_values.proofs.laws.writes_write_each_row_once.Goals as goal

pub returns : goal.returns
returns c = writes_write_each_row_once
