-- The rows of all tables at a time, by the row writes so far.
use Rattle.std.specs.Prelude.{ℕ, not, ◌&&◌, nat_le, ◌==◌, ℤ, List, [], ◌∷◌, fold, filter, Option, None, Some, if◌then◌else◌}
use Rattle.std.specs.Ordering.{int_cmp, int_eq}
use Rattle.std.specs.FinMap.Entries as sorted
use Rattle.tt_values.specs.declared.row.Row.{Row}

-- the rows of a table with their keys, in ascending order of keys
abbrev pub RowsByKey : Type 0
RowsByKey = List (ℤ × Row)

-- the rows of each table, by its position
abbrev pub Content : Type 0
Content = ℕ → RowsByKey

abbrev pub empty_content : Content
empty_content table = []

-- the row with this key
abbrev pub row_at : RowsByKey → ℤ → Option Row
row_at rows key = sorted.find int_cmp key rows

-- the rows after the row of a key is set, or removed
abbrev pub with_row_at : RowsByKey → ℤ → Option Row → RowsByKey
with_row_at rows key None = sorted.where_key int_cmp (λ k. not (int_eq k key)) rows
with_row_at rows key (Some row) = sorted.put int_cmp key row rows

-- a row write: at this time the row of a key was set, or removed
pub record RowWrite : Type 0 where
  pub time : ℕ
  pub table : ℕ
  pub key : ℤ
  pub row : Option Row

-- the content after a further row write
abbrev pub with_row_write : Content → RowWrite → Content
with_row_write X w table = if table == w.table then with_row_at (X table) w.key w.row else X table

-- the row writes up to a time
abbrev pub up_to : ℕ → List RowWrite → List RowWrite
up_to time ws = filter (λ w. nat_le w.time time) ws

-- the content at a time: all row writes up to it, one after another
abbrev pub content_at : List RowWrite → ℕ → Content
content_at ws time = fold with_row_write empty_content (up_to time ws)

-- the row of the last row write, or none if there is no row write
abbrev pub last_row_written : List RowWrite → Option Row
last_row_written [] = None
last_row_written (w ∷ []) = w.row
last_row_written (w ∷ v ∷ ws) = last_row_written (v ∷ ws)

-- the row of the last row write, or the row before if there is no row write
abbrev pub last_row_written_or : Option Row → List RowWrite → Option Row
last_row_written_or before [] = before
last_row_written_or before (w ∷ ws) = last_row_written_or w.row ws

-- the row writes for a key of a table
abbrev pub for_key : ℕ → ℤ → List RowWrite → List RowWrite
for_key table key ws = filter (λ w. (table == w.table) && int_eq key w.key) ws
