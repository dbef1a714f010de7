-- each byte so far is 0 already
use Rattle.std.proofs.Common.{◌≡◌, ◌-◌, ◌<◌, ◌≤◌, length}
use Rattle.tt_log.specs.Crash.{written_over}
use Rattle.tt_log.specs.Lines.{zeros}
use Rattle.tt_log.proofs.rest.is_clear.Given as goal

abbrev pub invariant-loop-at : goal.invariant-loop-at
invariant-loop-at g l = record {
  some : 0 < length l.buffer;
  behind : l.from ≤ l.at;
  within : l.at ≤ l.len;
  clear : g.D.Device.tells l.device → g.D.Device.seen l.device ≡ written_over (g.D.Device.seen l.device) l.from (zeros (l.at - l.from));
}

abbrev pub decreases-loop-at : goal.decreases-loop-at
decreases-loop-at g l = l.len - l.at
