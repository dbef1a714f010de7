-- the walk has met no 0, and knows where the last line ends so far
use Rattle.std.proofs.Common.{◌≡◌, ◌≤◌, ◌+◌, drop, length}
use Rattle.tt_log.specs.Lines.{text}
use Rattle.tt_log.proofs.RestLemmas.{end_from}
use Rattle.tt_log.proofs.unread_log.extent_of.Given as goal

abbrev pub invariant-loop-i : goal.invariant-loop-i
invariant-loop-i l = record {
  read : end_from l.end l.i (drop l.i l.bytes) ≡ end_from 0 0 l.bytes;
  text : l.i + length (text (drop l.i l.bytes)) ≡ length (text l.bytes);
  within : l.end ≤ l.i;
}
