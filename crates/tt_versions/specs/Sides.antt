-- The two sides of a table: for each key and time, the row.
use Rattle.std.specs.Prelude.{◌≡◌, ℕ, zero, suc, ℤ, Bool, true, false, ◌&&◌, ◌||◌, nat_le, List, [], IsTrue, Option, None, is_some, map, if◌then◌else◌, ◌∷◌, filter, not}
use Rattle.std.specs.Borrow.{Bor}
use Rattle.std.specs.Option.{unwrap_or}
use Rattle.std.specs.Ordering.{int_cmp, int_eq}
use Rattle.std.specs.FinMap.Entries as sorted
use Rattle.tt_values.specs.declared.row.Row.{Row}
use Rattle.tt_values.specs.Content.{RowsByKey, row_at}
use Rattle.tt_versions.specs.declared.side.Side.{Side}
use Rattle.tt_versions.specs.declared.side.Side.TheVariants.{Current, Next}
use Rattle.tt_versions.specs.declared.lineage.Lineage.{Lineage}
use Rattle.tt_versions.specs.Versions.{visible_row}
use Rattle.tt_versions.specs.Lineage.{unwritten, chain_on, with_write_on, unsplit}

-- the lineages of a table, by rising key
abbrev pub LineagesByKey : Type 0
LineagesByKey = List (ℤ × Lineage)

-- the lineages of a table that was never written
abbrev pub no_lineages : LineagesByKey
no_lineages = []

-- for each key and time, the row, or none
abbrev pub RowsOverTime : Type 0
RowsOverTime = ℤ → ℕ → Option Row

-- the lineage of the row with a key
abbrev pub lineage_at : LineagesByKey → ℤ → Lineage
lineage_at t key = unwrap_or (sorted.find int_cmp key t) unwritten

-- a side of a table
unfoldable pub side_of : LineagesByKey → Side → RowsOverTime
side_of t side key time = visible_row time (chain_on side (lineage_at t key))

-- the current side of a table, and the next one
abbrev pub current_of : LineagesByKey → RowsOverTime
current_of t = side_of t Current

abbrev pub next_of : LineagesByKey → RowsOverTime
next_of t = side_of t Next

-- whether the row with a key is split: it has a next side of its own
unfoldable pub is_split : LineagesByKey → ℤ → Bool
is_split t key = is_some (lineage_at t key).next

-- a set of keys has those of the split rows, and no others
abbrev pub HasSplitKeys : List (ℤ × Unit {0}) → LineagesByKey → Type 0
HasSplitKeys keys t = (key : ℤ) → is_some (sorted.find int_cmp key keys) ≡ is_split t key

-- a key is in a set, and the others stay
abbrev pub MarksKey : ℤ → List (ℤ × Unit {0}) → List (ℤ × Unit {0}) → Type 0
MarksKey key before after = (q : ℤ) → is_some (sorted.find int_cmp q after) ≡ (int_eq q key || is_some (sorted.find int_cmp q before))

-- one row is unsplit, and the others stay
abbrev pub UnsplitsRow : Side → ℤ → LineagesByKey → LineagesByKey → Type 0
UnsplitsRow side key before after = (q : ℤ) → lineage_at after q ≡ (if int_eq q key then unsplit side (lineage_at before key) else lineage_at before q)

-- each row is unsplit: both its sides share the chain that a side shows
pub record UnsplitsRows (side : Side) (before after : LineagesByKey) : Type 0 where
  pub each : (key : ℤ) → lineage_at after key ≡ unsplit side (lineage_at before key)

-- no key has a row at any time
abbrev pub no_rows : RowsOverTime
no_rows key time = None

-- a side, once a key has that row, or none, from a time on
abbrev pub written_from : ℤ → Option Row → ℕ → RowsOverTime → RowsOverTime
written_from key row time rows q u = if int_eq q key && nat_le time u then row else rows q u

-- a side, once each key of a list has its row, or none, from a time on, one after another
abbrev pub all_written_from : List (ℤ × Option Row) → ℕ → RowsOverTime → RowsOverTime
all_written_from [] time rows = rows
all_written_from (e ∷ es) time rows = all_written_from es time (written_from e.0 e.1 time rows)

-- those of some rows to be written whose keys aren't split
abbrev pub whole_among : (ℤ → Bool) → List (ℤ × Option Row) → List (ℤ × Option Row)
whole_among split es = filter (λ e. not (split e.0)) es

-- a table, once each key of a list has its row, or none, from a time on, by writes on a side
abbrev pub with_writes : Side → List (ℤ × Option Row) → ℕ → LineagesByKey → LineagesByKey
with_writes side [] time t = t
with_writes side (e ∷ es) time t = with_writes side es time (sorted.put int_cmp e.0 (with_write_on side e.1 time (lineage_at t e.0)) t)

-- whether a row stays as it is, split or not, when it is written on a side: on the next one where it is split
abbrev pub StaysSplit : Side → (ℤ → Bool) → ℤ → Type 0
StaysSplit Current split key = Unit {0}
StaysSplit Next split key = split key ≡ true

-- the row just before a time. Before time 0 there is none
abbrev pub just_before : ℕ → (ℕ → Option Row) → Option Row
just_before zero rows = None
just_before (suc n) rows = rows n

-- a side, once a key is rolled back to before a time: from then on it is held at the row that it had just before
abbrev pub rolled_back_from : ℤ → ℕ → RowsOverTime → RowsOverTime
rolled_back_from key time rows = written_from key (just_before time (rows key)) time rows

-- no key is split
abbrev pub none_split : ℤ → Bool
none_split key = false

-- the keys of a set, and one more
abbrev pub with_key : ℤ → (ℤ → Bool) → ℤ → Bool
with_key key keys q = int_eq q key || keys q

-- the rows of a list of keys with references to rows
abbrev pub rows_behind : List (ℤ × Bor Row) → RowsByKey
rows_behind es = map (λ e. (e.0, e.1.now)) es

-- a list has the row of each key at a time, by rising key
pub record ListsRows (es : RowsByKey) (rows : RowsOverTime) (time : ℕ) : Type 0 where
  pub sorted : IsTrue (sorted.is_sorted int_cmp es)
  pub finds : (key : ℤ) → row_at es key ≡ rows key time
