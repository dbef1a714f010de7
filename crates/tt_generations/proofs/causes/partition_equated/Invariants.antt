-- no partition of the conditions so far got dirty with the slot
use Rattle.std.proofs.Common.{◌≡◌, not, pred, drop}
use Rattle.std.specs.List.{find}
use Rattle.tt_parts.specs.Partitions.{equated_partitions}
use Rattle.tt_parts.specs.Dirty.{partition_since}
use Rattle.tt_causes.specs.Numbers.{is_by}
use Rattle.tt_generations.proofs.causes.partition_equated.Given as goal

abbrev pub invariant-loop-equal : goal.invariant-loop-equal
invariant-loop-equal l = find (λ p. not (is_by (pred l.since) (partition_since l.dirty.since p))) (equated_partitions l.table l.columns l.equals) ≡ find (λ p. not (is_by (pred l.since) (partition_since l.dirty.since p))) (equated_partitions l.table l.columns (drop l.equal-index l.equals))
