-- A set of dirty rows and partitions, and when a statement is clear of it.
use Rattle.std.specs.Prelude.{◌≡◌, ℕ, ℤ, Bool, true, not, ◌&&◌, ◌==◌, List, [], ◌∷◌, ◌++◌, Option, None, Some, is_some, if◌then◌else◌}
use Rattle.std.specs.List.{list_any}
use Rattle.std.specs.Option.{unwrap_or, option_or}
use Rattle.std.specs.Ordering.{int_eq}
use Rattle.tt_values.specs.declared.row.Row.{Row}
use Rattle.tt_values.specs.declared.row_id.RowId.{RowId}
use Rattle.tt_values.specs.declared.table.Column.{Column}
use Rattle.tt_values.specs.Tables.{Tables, columns_at}
use Rattle.tt_parts.specs.declared.partition.Partition.{Partition}
use Rattle.tt_parts.specs.declared.partition.Reads.{Reads}
use Rattle.tt_parts.specs.declared.partition.Reads.TheVariants.{All, Equated}
use Rattle.tt_parts.specs.Partitions.{parts_of, key_partition, is_same_partition, is_partition_in}

-- a set of dirty rows and of dirty partitions
pub record DirtySet : Type 0 where
  pub rows : List RowId
  pub partitions : List Partition

-- the numbers with which members got dirty first: the rows, the partitions, and the tables that have a dirty row
pub record DirtySince : Type 0 where
  pub rows : List (RowId × ℕ)
  pub partitions : List (Partition × ℕ)
  pub tables : List (ℕ × ℕ)

-- the tables of a catalog, what is dirty in them, and since which number
pub record DirtyTables : Type 0 where
  pub catalog : Tables
  pub dirty : DirtySet
  pub since : DirtySince

-- nothing is dirty
abbrev pub nothing_dirty : DirtySet
nothing_dirty = record { rows = []; partitions = [] }

-- nothing has a number
abbrev pub nothing_since : DirtySince
nothing_since = record { rows = []; partitions = []; tables = [] }

-- whether a list of rows has the one with a key of a table
abbrev pub is_row_in : List RowId → ℕ → ℤ → Bool
is_row_in rows table key = list_any (λ r. (table == r.table) && int_eq key r.key) rows

-- whether some row of a list is of this table
abbrev pub is_table_in : List RowId → ℕ → Bool
is_table_in rows table = list_any (λ r. table == r.table) rows

-- whether the row with a key of a table is dirty
abbrev pub has_row : DirtySet → ℕ → ℤ → Bool
has_row D = is_row_in D.rows

-- whether a row of a table is dirty
abbrev pub has_row_of : DirtySet → ℕ → Bool
has_row_of D = is_table_in D.rows

-- whether a partition is dirty
abbrev pub has_partition : DirtySet → Partition → Bool
has_partition D = is_partition_in D.partitions

-- the partition of the key of each row of a list is in a list of partitions
abbrev pub HaveKeyPartitions : List RowId → List Partition → Type 0
HaveKeyPartitions rows ps = (table : ℕ) (key : ℤ) → is_row_in rows table key ≡ true → is_partition_in ps (key_partition table key) ≡ true

-- two lists have the same rows
abbrev pub SameRows : List RowId → List RowId → Type 0
SameRows rs ss = (table : ℕ) (key : ℤ) → is_row_in rs table key ≡ is_row_in ss table key

-- two lists have the same partitions
abbrev pub SamePartitions : List Partition → List Partition → Type 0
SamePartitions ps qs = (p : Partition) → is_partition_in ps p ≡ is_partition_in qs p

-- two sets have the same members
pub record SameMembers (D E : DirtySet) : Type 0 where
  pub rows : SameRows D.rows E.rows
  pub partitions : SamePartitions D.partitions E.partitions

-- the number of the first item of a list that passes a test
abbrev pub number_of : {X : Type 0} → (X → Bool) → List (X × ℕ) → Option ℕ
number_of is_it [] = None
number_of is_it (e ∷ es) = if is_it e.0 then Some e.1 else number_of is_it es

-- the number with which the row with a key of a table got dirty first, none where it isn't dirty
abbrev pub row_since : DirtySince → ℕ → ℤ → Option ℕ
row_since since table key = number_of (λ r. (table == r.table) && int_eq key r.key) since.rows

-- the same of a partition
abbrev pub partition_since : DirtySince → Partition → Option ℕ
partition_since since p = number_of (is_same_partition p) since.partitions

-- the number with which the first row of a table got dirty, none where no row of it is dirty
abbrev pub table_since : DirtySince → ℕ → Option ℕ
table_since since table = number_of (λ t. table == t) since.tables

-- the members are those that have a number
pub record NumbersAgree (D : DirtySet) (since : DirtySince) : Type 0 where
  pub rows : (table : ℕ) (key : ℤ) → is_some (row_since since table key) ≡ has_row D table key
  pub partitions : (p : Partition) → is_some (partition_since since p) ≡ has_partition D p
  pub tables : (table : ℕ) → is_some (table_since since table) ≡ has_row_of D table

-- the columns of a table of a catalog
abbrev pub columns_in : Tables → ℕ → List Column
columns_in tables table = unwrap_or (columns_at tables table) []

-- the partitions of a row, if there is one
abbrev pub parts_if : ℕ → List Column → Option Row → List Partition
parts_if table columns None = []
parts_if table columns (Some row) = parts_of table columns row

-- the set after a row gets dirty, and with it the partitions of its key and of its contents before and after
abbrev pub with_row : DirtySet → ℕ → List Column → ℤ → Option Row → Option Row → DirtySet
with_row D table columns key before after = record {
  rows = record { table = table; key = key } ∷ D.rows;
  partitions = key_partition table key ∷ parts_if table columns before ++ parts_if table columns after ++ D.partitions;
}

-- the set after a row of a table of the catalog gets dirty
abbrev pub with_row_in : DirtyTables → ℕ → ℤ → Option Row → Option Row → DirtySet
with_row_in d table key before after = with_row d.dirty table (columns_in d.catalog table) key before after

-- the partitions that get dirty with a row
abbrev pub partitions_with_row : ℕ → List Column → ℤ → Option Row → Option Row → List Partition
partitions_with_row table columns key before after = key_partition table key ∷ parts_if table columns before ++ parts_if table columns after

-- the number of a member that may get dirty with another number: it keeps the one that it has
abbrev pub since_or : Option ℕ → Bool → ℕ → Option ℕ
since_or old is_added number = option_or old (if is_added then Some number else None)

-- numbers after a row got dirty with a number: what had one keeps it
pub record IsSinceWithRow (old : DirtySince) (table : ℕ) (columns : List Column) (key : ℤ) (before after : Option Row) (number : ℕ) (new : DirtySince) : Type 0 where
  pub rows : (t : ℕ) (k : ℤ) → row_since new t k ≡ since_or (row_since old t k) ((t == table) && int_eq k key) number
  pub partitions : (p : Partition) → partition_since new p ≡ since_or (partition_since old p) (is_partition_in (partitions_with_row table columns key before after) p) number
  pub tables : (t : ℕ) → table_since new t ≡ since_or (table_since old t) (t == table) number

-- whether some partition of qs is not in ps
abbrev pub has_other_partition : List Partition → List Partition → Bool
has_other_partition ps qs = list_any (λ q. not (is_partition_in ps q)) qs

-- whether a statement on a table is clear, by the partitions that it reads: one of them isn't dirty, or, if there is none, no row of the table is
abbrev pub is_clear : DirtySet → ℕ → List Partition → Bool
is_clear D table [] = not (has_row_of D table)
is_clear D table (p ∷ ps) = has_other_partition D.partitions (p ∷ ps)

-- whether a statement is clear, by its reads
abbrev pub is_clear_of : DirtySet → Reads → Bool
is_clear_of D (All table) = not (has_row_of D table)
is_clear_of D (Equated ps) = has_other_partition D.partitions ps
