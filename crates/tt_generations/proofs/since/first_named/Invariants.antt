-- the number so far and those of the writes that are left give that of all
use Rattle.std.proofs.Common.{◌≡◌, drop}
use Rattle.tt_causes.specs.Numbers.{earlier, earliest, named_since}
use Rattle.tt_generations.proofs.since.first_named.Given as goal

abbrev pub invariant-loop-write : goal.invariant-loop-write
invariant-loop-write l = earlier l.since (earliest (named_since l.dirty.since) (drop l.write-index l.writes)) ≡ earliest (named_since l.dirty.since) l.writes
