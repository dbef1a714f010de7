-- no byte 0 was met, and no line ends so far
use Rattle.std.proofs.Common.{◌≡◌, ◌-◌, ◌<◌, ◌≤◌, ◌++◌, length, take, drop}
use Rattle.tt_log.specs.Lines.{text, joined, whole_lines_of}
use Rattle.tt_log.proofs.show.has_lines.Given as goal

abbrev pub invariant-loop-at : goal.invariant-loop-at
invariant-loop-at g l =
    let file = g.D.Device.seen l.device in
    let told = g.D.Device.tells l.device in
    record {
      some : 0 < length l.buffer;
      within : l.at ≤ l.len;
      read : told → text file ≡ take l.at file ++ text (drop l.at file);
      none : told → 0 ≡ length (joined (whole_lines_of (take l.at file)));
    }

abbrev pub decreases-loop-at : goal.decreases-loop-at
decreases-loop-at g l = l.len - l.at
