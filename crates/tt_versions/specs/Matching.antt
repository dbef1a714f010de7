-- The rows of a side that match the conditions of a statement.
use Rattle.std.specs.Prelude.{◌≡◌, ℕ, ℤ, IsTrue, List, Option, None, Some, if◌then◌else◌}
use Rattle.std.specs.Ordering.{int_cmp}
use Rattle.std.specs.FinMap.Entries as sorted
use Rattle.tt_values.specs.declared.row.Row.{Row}
use Rattle.tt_values.specs.declared.statement.Equal.{Equal}
use Rattle.tt_values.specs.Matches.{matches}
use Rattle.tt_values.specs.Content.{RowsByKey, row_at}
use Rattle.tt_values.specs.Effect.{matching_rows}
use Rattle.tt_versions.specs.Sides.{RowsOverTime, ListsRows}

-- a row, if it's there and matches
abbrev pub if_matching : List Equal → Option Row → Option Row
if_matching equals None = None
if_matching equals (Some row) = if matches equals row then Some row else None

-- a list has the row of each key at a time, if it matches, by rising key
pub record ListsMatches (es : RowsByKey) (equals : List Equal) (rows : RowsOverTime) (time : ℕ) : Type 0 where
  pub sorted : IsTrue (sorted.is_sorted int_cmp es)
  pub finds : (key : ℤ) → row_at es key ≡ if_matching equals (rows key time)

-- of whatever list has the rows of a side at a time, a list of rows are those that match
abbrev pub ListsMatchingRows : RowsByKey → List Equal → RowsOverTime → ℕ → Type 0
ListsMatchingRows es equals rows time = (all : RowsByKey) → ListsRows all rows time → es ≡ matching_rows equals all
