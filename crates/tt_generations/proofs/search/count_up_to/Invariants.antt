-- the numbers in front of `low` are up to the number, and those from `high` on above it
use Rattle.std.proofs.Common.{◌≡◌, ◌-◌, ◌≤◌, true, length}
use Rattle.tt_generations.specs.ReexecutedSlots.{begins_above, ends_up_to}
use Rattle.tt_generations.proofs.search.count_up_to.Given as goal

abbrev pub invariant-loop-low : goal.invariant-loop-low
invariant-loop-low l = record {
  ordered : l.low ≤ l.high;
  within : l.high ≤ length l.numbers;
  before : ends_up_to l.numbers l.number l.low ≡ true;
  behind : begins_above l.numbers l.number l.high ≡ true;
}

abbrev pub decreases-loop-low : goal.decreases-loop-low
decreases-loop-low l = l.high - l.low
