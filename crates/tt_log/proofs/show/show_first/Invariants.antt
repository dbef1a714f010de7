-- so many bytes are handed over, and so many lines end in them
use Rattle.std.proofs.Common.{◌≡◌, ◌↔◌, ◌-◌, ◌<◌, ◌≤◌, ◌++◌, length, take}
use Rattle.tt_log.specs.Device.{NothingNew}
use Rattle.tt_log.specs.Lines.{whole_lines_of}
use Rattle.tt_log.proofs.show.show_first.Given as goal

abbrev pub invariant-loop-at : goal.invariant-loop-at
invariant-loop-at g l =
    let first = l.initial.device in
    let file = g.D.Device.seen first in
    let told = g.D.Device.tells first in
    record {
      some : 0 < length l.buffer;
      within : l.at ≤ l.end;
      few : l.lines ≤ l.at;
      tells : told ↔ g.D.Device.tells l.device;
      seen : told → g.D.Device.seen l.device ≡ file;
      crash : told → NothingNew (g.D.Device.may_leave first) (g.D.Device.may_leave l.device);
      shown : told → g.D.Device.shown l.device ≡ g.D.Device.shown first ++ take l.at file;
      lines : told → l.lines ≡ length (whole_lines_of (take l.at file));
      failures : told → g.D.Device.failures first ≤ g.D.Device.failures l.device;
    }

abbrev pub decreases-loop-at : goal.decreases-loop-at
decreases-loop-at g l = l.end - l.at
