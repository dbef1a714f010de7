use Rattle.tt_values.proofs.LawProofs.{shows_last_row_write}
use Rattle.tt_values.proofs.laws.shows_last_row_write.Goals as goal

pub returns : goal.returns
returns c = shows_last_row_write
