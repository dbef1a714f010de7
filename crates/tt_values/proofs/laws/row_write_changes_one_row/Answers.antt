use Rattle.tt_values.proofs.LawProofs.{row_write_changes_one_row}
use Rattle.tt_values.proofs.laws.row_write_changes_one_row.Goals as goal

pub returns : goal.returns
returns c = row_write_changes_one_row
