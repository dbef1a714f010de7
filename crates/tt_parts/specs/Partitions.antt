-- The partitions that a row lies in, and those that a write reads.
use Rattle.std.specs.Prelude.{ℕ, suc, Bool, false, ◌&&◌, ◌||◌, ◌==◌, ℤ, List, [], ◌∷◌, map, filter, Option, None, Some, slice_get, if◌then◌else◌}
use Rattle.std.specs.List.{list_any}
use Rattle.std.specs.Option.{option_map_or}
use Rattle.tt_values.specs.declared.value.Value.{Value}
use Rattle.tt_values.specs.declared.value.Value.TheVariants as values
use Rattle.tt_values.specs.declared.row.Row.{Row}
use Rattle.tt_values.specs.declared.table.Column.{Column}
use Rattle.tt_values.specs.declared.statement.Equal.{Equal}
use Rattle.tt_values.specs.declared.statement.Write.{Write}
use Rattle.tt_values.specs.declared.statement.Write.TheVariants.{Insert, Update, Delete}
use Rattle.tt_values.specs.Value.{is_same}
use Rattle.tt_values.specs.Row.{key_of}
use Rattle.tt_values.specs.Matches.{equates}
use Rattle.tt_values.specs.Effect.{table_of}
use Rattle.tt_parts.specs.declared.partition.Partition.{Partition}
use Rattle.tt_parts.specs.declared.partition.Reads.{Reads}
use Rattle.tt_parts.specs.declared.partition.Reads.TheVariants.{All, Equated}

-- whether the column at a position is a partition column: the first, which holds the key, and each that is declared as one
abbrev pub is_partition_column : ℕ → Column → Bool
is_partition_column i column = (i == 0) || column.partition

-- the partition of the value in the column at a position, if there is a value and the column is a partition column
abbrev pub part_at : ℕ → ℕ → Column → Option Value → List Partition
part_at table i c None = []
part_at table i c (Some v) = if is_partition_column i c then record { table = table; column = i; value = v } ∷ [] else []

-- the partitions of a row by its columns from a position on
abbrev pub parts_from : ℕ → ℕ → List Column → List Value → List Partition
parts_from table i [] vs = []
parts_from table i (c ∷ cs) [] = []
parts_from table i (c ∷ cs) (v ∷ vs) =
    if is_partition_column i c then record { table = table; column = i; value = v } ∷ parts_from table (suc i) cs vs
    else parts_from table (suc i) cs vs

-- the partitions that a row of a table lies in: one for each partition column, in their order
abbrev pub parts_of : ℕ → List Column → Row → List Partition
parts_of table columns row = parts_from table 0 columns row.values

-- the partition of a key
abbrev pub key_partition : ℕ → ℤ → Partition
key_partition table key = record { table = table; column = 0; value = values.Int key }

-- whether there is a column at a position, and it is a partition column
abbrev pub is_partition_position : List Column → ℕ → Bool
is_partition_position columns i = option_map_or (is_partition_column i) (slice_get columns i) false

-- whether a condition fixes the value of a partition column: only an equality does
abbrev pub equates_partition : List Column → Equal → Bool
equates_partition columns q = equates q && is_partition_position columns q.column

-- the partition of an equality
abbrev pub partition_of : ℕ → Equal → Partition
partition_of table q = record { table = table; column = q.column; value = q.value }

-- the partitions that conditions equate: one for each equality on a partition column, in their order
abbrev pub equated_partitions : ℕ → List Column → List Equal → List Partition
equated_partitions table columns qs = map (partition_of table) (filter (equates_partition columns) qs)

-- the partitions that a write reads: those of its equalities, or of the key that it inserts
abbrev pub partitions_read : List Column → Write → List Partition
partitions_read columns (Insert table row) = key_partition table (key_of row) ∷ []
partitions_read columns (Update table changes qs) = equated_partitions table columns qs
partitions_read columns (Delete table qs) = equated_partitions table columns qs

-- partitions of a table as reads, or the whole table if there is none
abbrev pub reads_or_all : ℕ → List Partition → Reads
reads_or_all table [] = All table
reads_or_all table (p ∷ ps) = Equated (p ∷ ps)

-- what a write reads
abbrev pub reads_of : List Column → Write → Reads
reads_of columns write = reads_or_all (table_of write) (partitions_read columns write)

-- whether two partitions are the same
abbrev pub is_same_partition : Partition → Partition → Bool
is_same_partition p q = (p.table == q.table) && (p.column == q.column) && is_same p.value q.value

-- whether a list has a partition
abbrev pub is_partition_in : List Partition → Partition → Bool
is_partition_in ps p = list_any (is_same_partition p) ps
