-- The rows that differ between two sides of a table at a time.
use Rattle.std.specs.Prelude.{◌≡◌, ℕ, ℤ, Bool, true, false, List, map, take, IsTrue, Option, None, Some, if◌then◌else◌}
use Rattle.std.specs.Option.{option_copied}
use Rattle.std.specs.Ordering.{int_cmp}
use Rattle.std.specs.FinMap.Entries.{find, is_sorted}
use Rattle.tt_values.specs.declared.row.Row.{Row}
use Rattle.tt_values.specs.Same.{is_same_row}
use Rattle.tt_versions.specs.declared.table.differences.RowDifference.{RowDifference}
use Rattle.tt_versions.specs.Pages.{those_after}
use Rattle.tt_versions.specs.Sides.{RowsOverTime}

-- whether a row is the same on both sides, or on neither
abbrev pub is_unchanged : Option Row → Option Row → Bool
is_unchanged None None = true
is_unchanged None (Some r) = false
is_unchanged (Some r) None = false
is_unchanged (Some r) (Some s) = is_same_row r s

-- the rows of both sides, or none where they are the same
abbrev pub difference_of : Option Row → Option Row → Option (Option Row × Option Row)
difference_of current next = if is_unchanged current next then None else Some (current, next)

-- the rows of both sides at some keys
abbrev pub DifferencesByKey : Type 0
DifferencesByKey = List (ℤ × (Option Row × Option Row))

-- a list has each key at which two sides differ at a time, with its rows, by rising key, and no others
pub record ListsDifferences (es : DifferencesByKey) (current next : RowsOverTime) (time : ℕ) : Type 0 where
  pub sorted : IsTrue (is_sorted int_cmp es)
  pub finds : (key : ℤ) → find int_cmp key es ≡ difference_of (current key time) (next key time)

-- of that list, a list has the first with greater keys than this one, if one is given, at most this number
pub record ListsFirstDifferences (es : DifferencesByKey) (low : Option ℤ) (most : ℕ) (current next : RowsOverTime) (time : ℕ) : Type 0 where
  pub all : DifferencesByKey
  pub lists : ListsDifferences all current next time
  pub first : es ≡ take most (those_after low all)

-- the rows behind a difference
abbrev pub rows_of_difference : RowDifference → Option Row × Option Row
rows_of_difference d = (option_copied d.current, option_copied d.next)

-- the rows behind some differences, each with its key
abbrev pub differences_behind : List RowDifference → DifferencesByKey
differences_behind ds = map (λ d. (d.key, rows_of_difference d)) ds
