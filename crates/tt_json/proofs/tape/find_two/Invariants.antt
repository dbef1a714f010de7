-- The members and the unknown name so far are those of the members that have been put.
use Rattle.std.proofs.Common.{[], ◌∷◌, ◌++◌, map, length}
use Rattle.std.specs.Option.{option_copied}
use Rattle.tt_json.specs.Value.{is_among}
use Rattle.tt_json.proofs.FindLemmas.{AreLeft, IsFoundSoFar}
use Rattle.tt_json.proofs.LeastLemmas.{IsLeastSoFar}
use Rattle.tt_json.proofs.tape.find_two.Given as goal

abbrev pub invariant-loop-name : goal.invariant-loop-name
invariant-loop-name l =
    AreLeft l.members
    × IsFoundSoFar l.fn.first l.fn.members l.members l.found_first
    × IsFoundSoFar l.fn.second l.fn.members l.members l.found_second
    × IsLeastSoFar (is_among (map (λ k. k.now) l.fn.known ++ l.fn.first ∷ l.fn.second ∷ [])) l.fn.members l.members (option_copied l.unknown)

abbrev pub decreases-loop-name : goal.decreases-loop-name
decreases-loop-name l = length l.members
