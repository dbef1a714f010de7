-- The member so far is that of the members that have been put.
use Rattle.std.proofs.Common.{length}
use Rattle.tt_json.proofs.FindLemmas.{AreLeft, IsFoundSoFar}
use Rattle.tt_json.proofs.tape.find.Given as goal

abbrev pub invariant-loop-name : goal.invariant-loop-name
invariant-loop-name l = AreLeft l.members × IsFoundSoFar l.fn.wanted l.fn.members l.members l.found

abbrev pub decreases-loop-name : goal.decreases-loop-name
decreases-loop-name l = length l.members
