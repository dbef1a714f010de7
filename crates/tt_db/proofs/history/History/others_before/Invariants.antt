-- the other entries in front of `low` have fewer writes before them, and those from `high` on have not
use Rattle.std.proofs.Common.{◌-◌, ◌≤◌, length, take, drop}
use Rattle.tt_db.specs.History.{writes_before_others, AllBelow, NoneBelow}
use Rattle.tt_db.proofs.history.History.others_before.Given as goal

abbrev pub invariant-loop-low : goal.invariant-loop-low
invariant-loop-low l = record {
  ordered : l.low ≤ l.high;
  within : l.high ≤ length (writes_before_others 0 l.self);
  front : AllBelow l.number (take l.low (writes_before_others 0 l.self));
  rest : NoneBelow l.number (drop l.high (writes_before_others 0 l.self));
}

abbrev pub decreases-loop-low : goal.decreases-loop-low
decreases-loop-low l = l.high - l.low
