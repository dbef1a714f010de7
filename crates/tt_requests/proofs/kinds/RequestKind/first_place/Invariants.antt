-- The place so far is that of the members that have been put.
use Rattle.std.proofs.Common.{◌≤◌, length}
use Rattle.tt_requests.specs.Kinds.{kinds}
use Rattle.tt_requests.proofs.KindLemmas.{IsFirstSoFar}
use Rattle.tt_requests.proofs.kinds.RequestKind.first_place.Given as goal

abbrev pub invariant-loop-name : goal.invariant-loop-name
invariant-loop-name l = record {
  so_far : IsFirstSoFar l.fn.members l.members l.first;
  within : l.first ≤ length kinds;
}

abbrev pub decreases-loop-name : goal.decreases-loop-name
decreases-loop-name l = length l.members
