-- the bytes so far are taken, and there are no more calls than bytes
use Rattle.std.proofs.Common.{◌+◌, ◌-◌, ◌≤◌, length, take}
use Rattle.tt_session.specs.Run.{calls_of}
use Rattle.tt_lines.specs.Running.{Takes}
use Rattle.tt_lines.proofs.run.Run.take.Given as goal

abbrev pub invariant-loop-from : goal.invariant-loop-from
invariant-loop-from g l = record {
  within : l.from ≤ length l.bytes;
  calls : calls_of l.self.session ≤ calls_of l.initial.self.session + l.from;
  ready : g.O.Outlet.is_ready l.outlet;
  taken : Takes g.O.Outlet.handed g.O.Outlet.has_log l.initial.outlet l.outlet (take l.from l.bytes) l.initial.self l.self;
}

abbrev pub decreases-loop-from : goal.decreases-loop-from
decreases-loop-from g l = length l.bytes - l.from
