-- The proofs of this crate's laws. Other crates cite these lemmas of it, and no others.
use Rattle.tt_parts.specs.Laws.{SamePartitionsAreEqual, EachPartitionIsInItsList, MatchedRowsLieInEquatedPartitions, RowsLieInTheirKeyPartition, SameMembersWithRow, ClearDependsOnMembers, ReadsDecideClear}
use Rattle.tt_parts.proofs.SoundnessLemmas as sound
use Rattle.tt_parts.proofs.DirtySetLemmas as dirty

pub same_partitions_are_equal : SamePartitionsAreEqual
same_partitions_are_equal = sound.same_partitions_are_equal

pub each_partition_is_in_its_list : EachPartitionIsInItsList
each_partition_is_in_its_list = sound.each_partition_is_in_its_list

pub matched_rows_lie_in_equated_partitions : MatchedRowsLieInEquatedPartitions
matched_rows_lie_in_equated_partitions = sound.matched_rows_lie_in_equated_partitions

pub rows_lie_in_their_key_partition : RowsLieInTheirKeyPartition
rows_lie_in_their_key_partition = sound.rows_lie_in_their_key_partition

pub same_members_with_row : SameMembersWithRow
same_members_with_row = dirty.same_members_with_row

pub clear_depends_on_members : ClearDependsOnMembers
clear_depends_on_members = dirty.clear_depends_on_members

pub reads_decide_clear : ReadsDecideClear
reads_decide_clear = dirty.reads_decide_clear
