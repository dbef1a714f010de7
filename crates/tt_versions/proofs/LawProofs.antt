-- The proofs of this crate's laws. Other crates cite these lemmas of it, and no others.
use Rattle.std.proofs.Common.{refl}
use Rattle.tt_versions.specs.declared.side.Side.TheVariants.{Current, Next}
use Rattle.tt_versions.specs.Sides.{side_of, is_split}
use Rattle.tt_versions.specs.Laws.{EmptyTableShowsNoRows, EmptyTableSplitsNothing, WholeRowsShowTheSame}
use Rattle.tt_versions.proofs.SidesLemmas.{next_of-whole}

pub empty_table_shows_no_rows : EmptyTableShowsNoRows
unfolding side_of
empty_table_shows_no_rows Current = refl
empty_table_shows_no_rows Next = refl

pub empty_table_splits_nothing : EmptyTableSplitsNothing
unfolding is_split
empty_table_splits_nothing = refl

pub whole_rows_show_the_same : WholeRowsShowTheSame
whole_rows_show_the_same = next_of-whole

-- what is said of a table without lineages
pub ruleset empty_table = (empty_table_shows_no_rows, empty_table_splits_nothing)
