-- What holds of all tables.
use Rattle.std.specs.Prelude.{◌≡◌, ℤ, false}
use Rattle.tt_versions.specs.declared.side.Side.{Side}
use Rattle.tt_versions.specs.Sides.{LineagesByKey, no_lineages, side_of, current_of, next_of, is_split, no_rows, none_split}

-- a table without lineages has no row on either side
abbrev pub EmptyTableShowsNoRows : Type 0
EmptyTableShowsNoRows = (side : Side) → side_of no_lineages side ≡ no_rows

-- a table without lineages has no split row
abbrev pub EmptyTableSplitsNothing : Type 0
EmptyTableSplitsNothing = is_split no_lineages ≡ none_split

-- a row that isn't split shows the same on both sides
abbrev pub WholeRowsShowTheSame : Type 0
WholeRowsShowTheSame = (t : LineagesByKey) (key : ℤ) → is_split t key ≡ false → next_of t key ≡ current_of t key
