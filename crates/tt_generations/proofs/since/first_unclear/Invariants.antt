-- the number so far and those of the writes that are left give that of all
use Rattle.std.proofs.Common.{◌≡◌, drop}
use Rattle.tt_causes.specs.Numbers.{earlier, earliest, unclear_since}
use Rattle.tt_generations.proofs.since.first_unclear.Given as goal

abbrev pub invariant-loop-write : goal.invariant-loop-write
invariant-loop-write l = earlier l.since (earliest (unclear_since l.dirty.catalog l.dirty.since) (drop l.write-index l.writes)) ≡ earliest (unclear_since l.dirty.catalog l.dirty.since) l.writes
