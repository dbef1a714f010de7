-- The tables of two generations, and how they follow row writes on each side.
use Rattle.std.specs.Prelude.{◌≡◌, ℕ, ◌+◌, ◌≤◌, nat_le, ℤ, true, false, not, ◌==◌, ◌&&◌, ◌||◌, List, ◌++◌, get_or, length, Option, if◌then◌else◌}
use Rattle.std.specs.List.{All}
use Rattle.tt_values.specs.declared.row.Row.{Row}
use Rattle.tt_values.specs.declared.row_id.RowId.{RowId}
use Rattle.tt_values.specs.Content.{Content, RowWrite}
use Rattle.tt_versions.specs.declared.side.Side.{Side}
use Rattle.tt_versions.specs.declared.side.Side.TheVariants.{Current}
use Rattle.tt_versions.specs.Sides.{LineagesByKey, no_lineages, side_of, current_of, next_of, is_split, none_split, all_written_from, just_before, ListsRows}
use Rattle.tt_versions.specs.RowsByWrites.{rows_by, as_row_writes}
use Rattle.tt_parts.specs.Dirty.{is_row_in}

-- tables by position
abbrev pub TablesByPosition : Type 0
TablesByPosition = List LineagesByKey

-- the table at a position. One past the end has no rows
abbrev pub versions_at : TablesByPosition → ℕ → LineagesByKey
versions_at tables table = get_or tables table no_lineages

-- the tables at all positions but one stay
abbrev pub KeepsOthers : ℕ → TablesByPosition → TablesByPosition → Type 0
KeepsOthers position before after = (t : ℕ) → (t == position) ≡ false → versions_at after t ≡ versions_at before t

-- on its current side each table has the rows of a list of row writes
abbrev pub CurrentAgrees : TablesByPosition → List RowWrite → Type 0
CurrentAgrees tables ws = (table : ℕ) → current_of (versions_at tables table) ≡ rows_by table ws

-- if the tables before have the rows of some row writes, the tables after have those of these and further ones
abbrev pub AddsRowWrites : TablesByPosition → TablesByPosition → List RowWrite → Type 0
AddsRowWrites before after further = (ws : List RowWrite) → CurrentAgrees before ws → CurrentAgrees after (ws ++ further)

-- tables get the effect of a write on a table at a time
abbrev pub AddsEffect : TablesByPosition → TablesByPosition → ℕ → ℕ → List (ℤ × Option Row) → Type 0
AddsEffect before after time table effect = AddsRowWrites before after (as_row_writes time table effect)

-- a table gets an effect at a time on its current side, and the others stay there
abbrev pub WritesCurrent : TablesByPosition → TablesByPosition → ℕ → ℕ → List (ℤ × Option Row) → Type 0
WritesCurrent before after time table effect = (t : ℕ) → current_of (versions_at after t)
    ≡ (if t == table then all_written_from effect time (current_of (versions_at before table)) else current_of (versions_at before t))

-- the same rows are split, and show the same on their next side
pub record KeepsSplitRows (before after : TablesByPosition) : Type 0 where
  pub split : (table : ℕ) → is_split (versions_at after table) ≡ is_split (versions_at before table)
  pub next : (table : ℕ) (key : ℤ) → is_split (versions_at before table) key ≡ true → next_of (versions_at after table) key ≡ next_of (versions_at before table) key

-- the current side of each table stays
abbrev pub KeepsCurrent : TablesByPosition → TablesByPosition → Type 0
KeepsCurrent before after = (table : ℕ) → current_of (versions_at after table) ≡ current_of (versions_at before table)

-- each of these rows is split
abbrev pub AreSplit : TablesByPosition → List RowId → Type 0
AreSplit tables rows = All (λ r. is_split (versions_at tables r.table) r.key ≡ true) rows

-- rows are split. Each that wasn't is rolled back on its next side to before a time
pub record SplitsRows (before after : TablesByPosition) (rows : List RowId) (time : ℕ) : Type 0 where
  pub current : KeepsCurrent before after
  pub split : (table : ℕ) (key : ℤ) → is_split (versions_at after table) key ≡ (is_row_in rows table key || is_split (versions_at before table) key)
  pub next : (table : ℕ) (key : ℤ) (u : ℕ) → let old = next_of (versions_at before table) key in
      next_of (versions_at after table) key u
      ≡ (if is_row_in rows table key && not (is_split (versions_at before table) key) && nat_le time u then just_before time old else old u)

-- a table gets an effect at a time on its next side alone
pub record WritesNext (before after : TablesByPosition) (time table : ℕ) (effect : List (ℤ × Option Row)) : Type 0 where
  pub current : KeepsCurrent before after
  pub split : (t : ℕ) → is_split (versions_at after t) ≡ is_split (versions_at before t)
  pub next : (t : ℕ) → next_of (versions_at after t) ≡ (if t == table then all_written_from effect time (next_of (versions_at before table)) else next_of (versions_at before t))

-- at a time a side of each table has this number of rows at most
pub record HasFewRows (tables : TablesByPosition) (side : Side) (time most : ℕ) : Type 0 where
  pub content : Content
  pub shows : (table : ℕ) → ListsRows (content table) (side_of (versions_at tables table) side) time
  pub few : (table : ℕ) → length (content table) ≤ most

-- at a time, the current side of each table gets at most one more row
abbrev pub AddsOneRowAtMost : ℕ → TablesByPosition → TablesByPosition → Type 0
AddsOneRowAtMost time before after = (most : ℕ) → HasFewRows before Current time most → HasFewRows after Current time (most + 1)

-- both sides of each table show what this one showed, and no row is split
pub record ShowsSide (side : Side) (before after : TablesByPosition) : Type 0 where
  pub rows : (table : ℕ) (either : Side) → side_of (versions_at after table) either ≡ side_of (versions_at before table) side
  pub whole : (table : ℕ) → is_split (versions_at after table) ≡ none_split
