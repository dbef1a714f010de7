-- the number so far and those of the conditions that are left give that of all
use Rattle.std.proofs.Common.{◌≡◌, drop}
use Rattle.tt_parts.specs.Partitions.{equated_partitions}
use Rattle.tt_parts.specs.Dirty.{partition_since}
use Rattle.tt_causes.specs.Numbers.{later}
use Rattle.tt_generations.specs.SlotCauses.{latest_of}
use Rattle.tt_generations.proofs.since.last_partition.Given as goal

abbrev pub invariant-loop-equal : goal.invariant-loop-equal
invariant-loop-equal l = later l.since (latest_of (partition_since l.dirty.since) (equated_partitions l.table l.columns (drop l.equal-index l.equals))) ≡ latest_of (partition_since l.dirty.since) (equated_partitions l.table l.columns l.equals)
