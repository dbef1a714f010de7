use Rattle.tt_values.proofs.LawProofs.{last_row_write_counts}
use Rattle.tt_values.proofs.laws.last_row_write_counts.Goals as goal

pub returns : goal.returns
returns c = last_row_write_counts
