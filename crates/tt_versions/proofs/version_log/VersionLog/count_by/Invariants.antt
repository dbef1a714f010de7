-- the versions in front of `low` started by the time, and those from `high` on did not
use Rattle.std.proofs.Common.{◌-◌, ◌≤◌, length, take, drop}
use Rattle.tt_versions.specs.Versions.{HaveStarted, NoneHasStarted}
use Rattle.tt_versions.proofs.version_log.VersionLog.count_by.Given as goal

abbrev pub invariant-loop-low : goal.invariant-loop-low
invariant-loop-low l = record {
  ordered : l.low ≤ l.high;
  within : l.high ≤ length l.self;
  front : HaveStarted l.time (take l.low l.self);
  rest : NoneHasStarted l.time (drop l.high l.self);
}

abbrev pub decreases-loop-low : goal.decreases-loop-low
decreases-loop-low l = l.high - l.low
