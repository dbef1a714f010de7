-- none of the writes so far reads a whole table and is unclear
use Rattle.std.proofs.Common.{◌≡◌, ◌&&◌, ◌==◌, length, drop}
use Rattle.std.specs.List.{find}
use Rattle.tt_causes.specs.Causes.{write_reads}
use Rattle.tt_causes.specs.Numbers.{is_by, unclear_since}
use Rattle.tt_generations.proofs.causes.table_scanned.Given as goal

abbrev pub invariant-loop-write : goal.invariant-loop-write
invariant-loop-write l = find (λ w. is_by l.since (unclear_since l.dirty.catalog l.dirty.since w) && (length (write_reads l.dirty.catalog w) == 0)) l.writes ≡ find (λ w. is_by l.since (unclear_since l.dirty.catalog l.dirty.since w) && (length (write_reads l.dirty.catalog w) == 0)) (drop l.write-index l.writes)
