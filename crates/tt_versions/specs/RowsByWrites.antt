-- The rows of one table that a list of row writes leaves, and how a side follows the list.
use Rattle.std.specs.Prelude.{◌≡◌, ℕ, ℤ, not, ◌&&◌, nat_le, ◌==◌, List, [], ◌∷◌, ◌++◌, filter, map, Option}
use Rattle.std.specs.Ordering.{int_eq}
use Rattle.tt_values.specs.declared.row.Row.{Row}
use Rattle.tt_values.specs.Content.{RowsByKey, RowWrite, content_at, row_at}
use Rattle.tt_versions.specs.Sides.{RowsOverTime}

-- the rows of a table over time, as the contents after a list of row writes have them
abbrev pub rows_by : ℕ → List RowWrite → RowsOverTime
rows_by table ws key time = row_at (content_at ws time table) key

-- a list of row writes without those for a key of a table at a time or later
abbrev pub without_row_writes : ℕ → ℤ → ℕ → List RowWrite → List RowWrite
without_row_writes table key time ws = filter (λ w. not ((table == w.table) && int_eq key w.key && nat_le time w.time)) ws

-- if the rows before are those by some row writes, the rows after are those by these and one more
abbrev pub AddsRowWrite : RowsOverTime → RowsOverTime → ℤ → Option Row → ℕ → Type 0
AddsRowWrite before after key row time = (table : ℕ) (ws : List RowWrite)
    → before ≡ rows_by table ws → after ≡ rows_by table (ws ++ record { time = time; table = table; key = key; row = row } ∷ [])

-- rows that are written, as row writes of a table at a time
abbrev pub as_row_writes : ℕ → ℕ → List (ℤ × Option Row) → List RowWrite
as_row_writes time table rows = map (λ e. record { time = time; table = table; key = e.0; row = e.1 }) rows

-- if the rows before are those by some row writes, the rows after are those by these and one more for each of a list
abbrev pub AddsRowWritesOf : RowsOverTime → RowsOverTime → List (ℤ × Option Row) → ℕ → Type 0
AddsRowWritesOf before after rows time = (table : ℕ) (ws : List RowWrite)
    → before ≡ rows_by table ws → after ≡ rows_by table (ws ++ as_row_writes time table rows)

-- if the rows before are those by some row writes, the rows after are those by these without the ones for a key from a time on
abbrev pub DropsRowWrites : RowsOverTime → RowsOverTime → ℤ → ℕ → Type 0
DropsRowWrites before after key time = (table : ℕ) (ws : List RowWrite)
    → before ≡ rows_by table ws → after ≡ rows_by table (without_row_writes table key time ws)

-- if the rows over time are those by some row writes, a list of rows is the content that these leave in the table at a time
abbrev pub ListsContent : RowsByKey → RowsOverTime → ℕ → Type 0
ListsContent es rows time = (table : ℕ) (ws : List RowWrite) → rows ≡ rows_by table ws → es ≡ content_at ws time table
