-- the values so far and those that are left are all
use Rattle.std.proofs.Common.{◌≡◌, ◌++◌, drop}
use Rattle.tt_parts.proofs.same_digest.SameDigest.with.Given as goal

abbrev pub invariant-loop-other : goal.invariant-loop-other
invariant-loop-other l = l.values ++ drop l.other-index l.other-items ≡ l.other-items
