-- the bytes so far are written into the new file, and the file stays as it was
use Rattle.std.proofs.Common.{◌≡◌, ◌↔◌, ◌<◌, ◌≤◌, ◌-◌, length, take}
use Rattle.tt_log.specs.Device.{StaysOnDisk}
use Rattle.tt_log.proofs.starting.copy_lines.Given as goal

abbrev pub invariant-loop-at : goal.invariant-loop-at
invariant-loop-at g l =
    let V = g.D.Device in
    let first = l.initial.device in
    record {
      some : 0 < length l.buffer;
      within : l.at ≤ l.end;
      tells : V.tells first ↔ V.tells l.device;
      copied : V.tells first → V.new_file l.device ≡ take l.at (V.seen first);
      stays : V.tells first → StaysOnDisk V.seen V.shown V.may_leave V.moment V.left_since V.failures first l.device;
    }

abbrev pub decreases-loop-at : goal.decreases-loop-at
decreases-loop-at g l = l.end - l.at
