-- so many lines end in the bytes so far
use Rattle.std.proofs.Common.{◌≡◌, ◌+◌, ◌≤◌, drop, length}
use Rattle.tt_log.specs.Lines.{whole_lines_of}
use Rattle.tt_log.proofs.show.line_count.Given as goal

abbrev pub invariant-loop-byte : goal.invariant-loop-byte
invariant-loop-byte l = record {
  counted : l.count + length (whole_lines_of (drop l.byte-index l.bytes)) ≡ length (whole_lines_of l.bytes);
  few : l.count ≤ l.byte-index;
}
