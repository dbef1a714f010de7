-- What holds of all partitions, rows and dirty sets.
use Rattle.std.specs.Prelude.{◌≡◌, ◌↔◌, ℕ, ◌<◌, ℤ, List, length, Option, Some, IsTrue}
use Rattle.std.specs.List.{list_all}
use Rattle.tt_values.specs.declared.row.Row.{Row}
use Rattle.tt_values.specs.declared.table.Column.{Column}
use Rattle.tt_values.specs.declared.statement.Equal.{Equal}
use Rattle.tt_values.specs.Row.{first_int}
use Rattle.tt_values.specs.Matches.{matches}
use Rattle.tt_parts.specs.declared.partition.Partition.{Partition}
use Rattle.tt_parts.specs.declared.partition.Reads.{Reads}
use Rattle.tt_parts.specs.Partitions.{parts_of, key_partition, equated_partitions, reads_or_all, is_same_partition, is_partition_in}
use Rattle.tt_parts.specs.Dirty.{DirtySet, SameMembers, with_row, is_clear, is_clear_of}

-- two partitions are the same exactly where they are equal
abbrev pub SamePartitionsAreEqual : Type 0
SamePartitionsAreEqual = (p q : Partition) → IsTrue (is_same_partition p q) ↔ (p ≡ q)

-- each partition of a list is in the list
abbrev pub EachPartitionIsInItsList : Type 0
EachPartitionIsInItsList = (ps : List Partition) → IsTrue (list_all (is_partition_in ps) ps)

-- a row in which every condition holds lies in the partition of each equality that is on a partition column
abbrev pub MatchedRowsLieInEquatedPartitions : Type 0
MatchedRowsLieInEquatedPartitions = (table : ℕ) (columns : List Column) (row : Row) (qs : List Equal) → IsTrue (matches qs row) →
    IsTrue (list_all (is_partition_in (parts_of table columns row)) (equated_partitions table columns qs))

-- a row with a key lies in the partition of its key, on a table that has a first column
abbrev pub RowsLieInTheirKeyPartition : Type 0
RowsLieInTheirKeyPartition = (table : ℕ) (columns : List Column) (row : Row) (key : ℤ) → 0 < length columns → first_int row.values ≡ Some key →
    IsTrue (is_partition_in (parts_of table columns row) (key_partition table key))

-- sets with the same members have the same members after a row gets dirty in both
abbrev pub SameMembersWithRow : Type 0
SameMembersWithRow = (D E : DirtySet) (table : ℕ) (columns : List Column) (key : ℤ) (before after : Option Row) → SameMembers D E →
    SameMembers (with_row D table columns key before after) (with_row E table columns key before after)

-- whether a statement is clear depends only on the members
abbrev pub ClearDependsOnMembers : Type 0
ClearDependsOnMembers = (D E : DirtySet) (reads : Reads) → SameMembers D E → is_clear_of D reads ≡ is_clear_of E reads

-- a statement is clear by its partitions exactly where it is clear by its reads
abbrev pub ReadsDecideClear : Type 0
ReadsDecideClear = (D : DirtySet) (table : ℕ) (ps : List Partition) → is_clear_of D (reads_or_all table ps) ≡ is_clear D table ps
