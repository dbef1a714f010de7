use Rattle.tt_versions.proofs.LawProofs.{empty_table_splits_nothing}
use Rattle.tt_versions.proofs.laws.an_empty_table_splits_nothing.Goals as goal

pub returns : goal.returns
returns c = empty_table_splits_nothing
