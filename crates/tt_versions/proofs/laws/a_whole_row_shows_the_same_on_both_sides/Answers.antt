use Rattle.tt_versions.proofs.LawProofs.{whole_rows_show_the_same}
use Rattle.tt_versions.proofs.laws.a_whole_row_shows_the_same_on_both_sides.Goals as goal

pub returns : goal.returns
returns c = whole_rows_show_the_same
