-- no value so far is the one
use Rattle.std.proofs.Common.{◌≡◌, drop}
use Rattle.tt_parts.specs.Sets.{since_among}
use Rattle.tt_parts.proofs.same_digest.SameDigest.since.Given as goal

abbrev pub invariant-loop-other : goal.invariant-loop-other
invariant-loop-other l = since_among (drop l.other-index l.other-items) l.value ≡ since_among l.other-items l.value
