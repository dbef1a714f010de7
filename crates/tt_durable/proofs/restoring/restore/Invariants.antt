-- the lines read so far are repeated, and there are no more of them than bytes
use Rattle.std.proofs.Common.{◌≡◌, ◌+◌, ◌-◌, ◌<◌, ◌≤◌, length}
use Rattle.tt_log.specs.Lines.{text}
use Rattle.tt_log.specs.Reading.{unread, IsReading}
use Rattle.tt_session.specs.Run.{begun, calls_of}
use Rattle.tt_durable.specs.RestoringRun.{RestoresSoFar}
use Rattle.tt_durable.proofs.restoring.restore.Given as goal

abbrev pub invariant-loop-total : goal.invariant-loop-total
invariant-loop-total g l = record {
  some : 0 < length l.buffer;
  few : length l.buffer ≤ 65536;
  within : l.total < 18446744073709551615 - 1;
  calls : calls_of (begun l.restoring.session) ≤ l.total;
  count : l.restoring.count ≤ l.total;
  device : l.log.device ≡ l.initial.log.device;
  reading : g.D.Device.tells l.initial.log.device → IsReading g.D.Device.seen l.log;
  room : g.D.Device.tells l.initial.log.device → l.total + length (unread g.D.Device.seen l.log) ≤ length (g.D.Device.seen l.initial.log.device);
  so_far : RestoresSoFar (g.D.Device.tells l.initial.log.device) (unread g.D.Device.seen l.log) (text (g.D.Device.seen l.initial.log.device)) l.restoring;
}

abbrev pub decreases-loop-total : goal.decreases-loop-total
decreases-loop-total g l = 18446744073709551615 - l.total
