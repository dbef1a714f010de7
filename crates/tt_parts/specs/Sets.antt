-- Dirty rows and partitions with their numbers as nested maps, and what a search of them finds.
use Rattle.std.specs.Prelude.{ℕ, ℤ, pos, Bool, true, false, ◌&&◌, ◌==◌, ◌≡◌, List, [], ◌∷◌, ◌++◌, Option, None, Some, map, filter, is_some, if◌then◌else◌}
use Rattle.std.specs.List.{flat_map}
use Rattle.std.specs.Option.{unwrap_or}
use Rattle.std.specs.Int.RustNames.{unsigned_abs}
use Rattle.std.specs.Ordering.{int_cmp, int_eq}
use Rattle.std.specs.FinMap.Entries as sorted
use Rattle.tt_values.specs.declared.row_id.RowId.{RowId}
use Rattle.tt_values.specs.declared.value.Value.{Value}
use Rattle.tt_values.specs.Value.{is_same}
use Rattle.tt_values.specs.Digest.{digest_of}
use Rattle.tt_parts.specs.declared.partition.Partition.{Partition}
use Rattle.tt_parts.specs.declared.dirty_keys.DirtyKeys.{DirtyKeys}
use Rattle.tt_parts.specs.declared.same_digest.DirtyValue.{DirtyValue}
use Rattle.tt_parts.specs.Partitions.{is_partition_in}
use Rattle.tt_parts.specs.Dirty.{DirtySet, DirtySince, since_or}

-- the list at a key of a map
abbrev pub under : {X : Type 0} → ℤ → List (ℤ × List X) → List X
under key entries = unwrap_or (sorted.find int_cmp key entries) []

-- the dirty keys of each table
abbrev pub KeysByTable : Type 0
KeysByTable = List (ℤ × DirtyKeys)

-- values by their digests
abbrev pub ValuesByDigest : Type 0
ValuesByDigest = List (ℤ × List DirtyValue)

-- the values of partitions, by column and digest
abbrev pub ValuesByColumn : Type 0
ValuesByColumn = List (ℤ × ValuesByDigest)

-- the values of partitions, by table, column and digest
abbrev pub ValuesByTable : Type 0
ValuesByTable = List (ℤ × ValuesByColumn)

-- whether a list has an item
abbrev pub is_filled : {X : Type 0} → List X → Bool
is_filled [] = false
is_filled (x ∷ xs) = true

-- no key is dirty
abbrev pub no_keys : DirtyKeys
no_keys = record { since = 0; numbers = [] }

-- the dirty keys of a table
abbrev pub keys_in : ℕ → KeysByTable → DirtyKeys
keys_in table tables = unwrap_or (sorted.find int_cmp (pos table) tables) no_keys

-- the number of a key
abbrev pub key_since : DirtyKeys → ℤ → Option ℕ
key_since keys key = sorted.find int_cmp key keys.numbers

-- the number of the first key, if there is a key
abbrev pub first_since : DirtyKeys → Option ℕ
first_since keys = if is_filled keys.numbers then Some keys.since else None

-- the number of the row with a key of a table
abbrev pub row_since_in : KeysByTable → ℕ → ℤ → Option ℕ
row_since_in tables table = key_since (keys_in table tables)

-- the number of the first row of a table
abbrev pub table_since_in : KeysByTable → ℕ → Option ℕ
table_since_in tables table = first_since (keys_in table tables)

-- whether a search finds the row with a key of a table
abbrev pub finds_row : KeysByTable → ℕ → ℤ → Bool
finds_row tables table key = is_some (row_since_in tables table key)

-- whether a search finds a row of a table
abbrev pub finds_table : KeysByTable → ℕ → Bool
finds_table tables table = is_filled (keys_in table tables).numbers

-- the number of a value in a list, where the value stands first
abbrev pub since_among : List DirtyValue → Value → Option ℕ
since_among [] v = None
since_among (d ∷ ds) v = if is_same v d.value then Some d.since else since_among ds v

-- the number of a value
abbrev pub value_since : ValuesByDigest → Value → Option ℕ
value_since values v = since_among (under (digest_of v) values) v

-- the number of a value in a column
abbrev pub since_in_column : ValuesByColumn → ℕ → Value → Option ℕ
since_in_column columns column = value_since (under (pos column) columns)

-- the number of a partition
abbrev pub partition_since_in : ValuesByTable → Partition → Option ℕ
partition_since_in tables p = since_in_column (under (pos p.table) tables) p.column p.value

-- whether a search finds a partition
abbrev pub finds_partition : ValuesByTable → Partition → Bool
finds_partition tables p = is_some (partition_since_in tables p)

-- the rows of a table
abbrev pub rows_of_table : ℤ × DirtyKeys → List RowId
rows_of_table entry = map (λ k. record { table = unsigned_abs entry.0; key = k.0 }) entry.1.numbers

-- the rows that a search finds
abbrev pub rows_found : KeysByTable → List RowId
rows_found tables = filter (λ r. finds_row tables r.table r.key) (flat_map rows_of_table tables)

-- the partitions of some values of a column
abbrev pub partitions_of_values : ℕ → ℕ → ℤ × List DirtyValue → List Partition
partitions_of_values table column entry = map (λ d. record { table = table; column = column; value = d.value }) entry.1

-- the partitions of a column, and of a table
abbrev pub partitions_of_column : ℕ → ℤ × ValuesByDigest → List Partition
partitions_of_column table entry = flat_map (partitions_of_values table (unsigned_abs entry.0)) entry.1

abbrev pub partitions_of_table : ℤ × ValuesByColumn → List Partition
partitions_of_table entry = flat_map (partitions_of_column (unsigned_abs entry.0)) entry.1

-- the partitions that a search finds
abbrev pub partitions_found : ValuesByTable → List Partition
partitions_found tables = filter (finds_partition tables) (flat_map partitions_of_table tables)

-- the rows and partitions that a search finds
abbrev pub dirty_found : KeysByTable → ValuesByTable → DirtySet
dirty_found rows partitions = record { rows = rows_found rows; partitions = partitions_found partitions }

-- items with their numbers
abbrev pub numbered : {X : Type 0} → (X → Option ℕ) → List X → List (X × ℕ)
numbered since xs = map (λ x. (x, unwrap_or (since x) 0)) xs

-- the numbers that a search finds
abbrev pub since_found : KeysByTable → ValuesByTable → DirtySince
since_found rows partitions = record {
  rows = numbered (λ r. row_since_in rows r.table r.key) (rows_found rows);
  partitions = numbered (partition_since_in partitions) (partitions_found partitions);
  tables = numbered (table_since_in rows) (map (λ r. r.table) (rows_found rows));
}

-- the dirty keys of a table after one of them gets a number
abbrev pub with_key : ℤ → ℕ → DirtyKeys → DirtyKeys
with_key key number keys = record {
  since = if is_filled keys.numbers then keys.since else number;
  numbers = sorted.put int_cmp key number keys.numbers;
}

-- values, and one more
abbrev pub with_value : DirtyValue → ValuesByDigest → ValuesByDigest
with_value d values = sorted.put int_cmp (digest_of d.value) (under (digest_of d.value) values ++ d ∷ []) values

-- the values of partitions, and one more in this column
abbrev pub with_value_in : ℕ → DirtyValue → ValuesByColumn → ValuesByColumn
with_value_in column d columns = sorted.put int_cmp (pos column) (with_value d (under (pos column) columns)) columns

-- a row gets a number, whatever it had
pub record PutsRow (before : KeysByTable) (table : ℕ) (key : ℤ) (number : ℕ) (after : KeysByTable) : Type 0 where
  pub rows : (t : ℕ) (k : ℤ) → row_since_in after t k ≡ (if (t == table) && int_eq k key then Some number else row_since_in before t k)
  pub tables : (t : ℕ) → table_since_in after t ≡ since_or (table_since_in before t) (t == table) number

-- a row gets dirty with a number: what had one keeps it
pub record AddsRow (before : KeysByTable) (table : ℕ) (key : ℤ) (number : ℕ) (after : KeysByTable) : Type 0 where
  pub rows : (t : ℕ) (k : ℤ) → row_since_in after t k ≡ since_or (row_since_in before t k) ((t == table) && int_eq k key) number
  pub tables : (t : ℕ) → table_since_in after t ≡ since_or (table_since_in before t) (t == table) number

-- partitions get dirty with a number: what had one keeps it
pub record AddsPartitions (before : ValuesByTable) (ps : List Partition) (number : ℕ) (after : ValuesByTable) : Type 0 where
  pub since : (p : Partition) → partition_since_in after p ≡ since_or (partition_since_in before p) (is_partition_in ps p) number
