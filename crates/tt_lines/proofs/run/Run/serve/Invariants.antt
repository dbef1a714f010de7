-- the bytes read so far are taken, their answers are handed over, and there are no more calls than bytes
use Rattle.std.proofs.Common.{◌-◌, ◌<◌, ◌≤◌, length}
use Rattle.tt_session.specs.Run.{calls_of}
use Rattle.tt_lines.specs.Ends.{ServesSoFar}
use Rattle.tt_lines.proofs.run.Run.serve.Given as goal

abbrev pub invariant-loop-total : goal.invariant-loop-total
invariant-loop-total g l = record {
  some : 0 < length l.buffer;
  few : length l.buffer ≤ 65536;
  within : l.total < 18446744073709551615 - 1;
  calls : calls_of l.self.session ≤ l.total;
  ready : g.O.Outlet.is_ready l.outlet;
  served : ServesSoFar g.O.Outlet.handed g.O.Outlet.has_log (g.R.Read.remaining l.initial.reader) (g.R.Read.remaining l.reader) l.initial.outlet l.outlet l.initial.self l.self;
}

abbrev pub decreases-loop-total : goal.decreases-loop-total
decreases-loop-total g l = 18446744073709551615 - l.total
