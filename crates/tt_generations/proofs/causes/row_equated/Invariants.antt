-- none of the conditions so far is an equality with the key of a dirty row
use Rattle.std.proofs.Common.{◌≡◌, drop}
use Rattle.std.specs.List.{find}
use Rattle.tt_causes.specs.Numbers.{is_by, condition_since}
use Rattle.tt_generations.proofs.causes.row_equated.Given as goal

abbrev pub invariant-loop-equal : goal.invariant-loop-equal
invariant-loop-equal l = find (λ q. is_by l.since (condition_since l.dirty.since l.table q)) l.equals ≡ find (λ q. is_by l.since (condition_since l.dirty.since l.table q)) (drop l.equal-index l.equals)
