-- what matches has its key in the range so far, and the conditions so far leave the range's keys
use Rattle.tt_versions.specs.KeyRange.{HasKeysOf}
use Rattle.tt_versions.proofs.RangeLemmas.{LeaveUpTo}
use Rattle.tt_versions.proofs.key_range.KeyRange.of.Given as goal

abbrev pub invariant-loop-equal : goal.invariant-loop-equal
invariant-loop-equal l = record {
  has : HasKeysOf l.range l.equals;
  narrow : LeaveUpTo l.equal-index l.range l.equals;
}
