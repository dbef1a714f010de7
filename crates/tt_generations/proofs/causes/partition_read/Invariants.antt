-- none of the writes so far reads partitions and is unclear
use Rattle.std.proofs.Common.{◌≡◌, ◌&&◌, ◌==◌, not, length, drop}
use Rattle.std.specs.List.{find}
use Rattle.tt_causes.specs.Causes.{write_reads}
use Rattle.tt_causes.specs.Numbers.{is_by, unclear_since}
use Rattle.tt_generations.proofs.causes.partition_read.Given as goal

abbrev pub invariant-loop-write : goal.invariant-loop-write
invariant-loop-write l = find (λ w. is_by l.since (unclear_since l.dirty.catalog l.dirty.since w) && not (length (write_reads l.dirty.catalog w) == 0)) l.writes ≡ find (λ w. is_by l.since (unclear_since l.dirty.catalog l.dirty.since w) && not (length (write_reads l.dirty.catalog w) == 0)) (drop l.write-index l.writes)
