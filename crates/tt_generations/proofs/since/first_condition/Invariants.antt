-- the number so far and those of the conditions that are left give that of all
use Rattle.std.proofs.Common.{◌≡◌, drop}
use Rattle.tt_causes.specs.Numbers.{earlier, earliest, condition_since}
use Rattle.tt_generations.proofs.since.first_condition.Given as goal

abbrev pub invariant-loop-equal : goal.invariant-loop-equal
invariant-loop-equal l = earlier l.since (earliest (condition_since l.dirty.since l.table) (drop l.equal-index l.equals)) ≡ earliest (condition_since l.dirty.since l.table) l.equals
