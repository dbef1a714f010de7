use Rattle.tt_versions.proofs.LawProofs.{empty_table_shows_no_rows}
use Rattle.tt_versions.proofs.laws.an_empty_table_shows_no_rows.Goals as goal

pub returns : goal.returns
returns c = empty_table_shows_no_rows
