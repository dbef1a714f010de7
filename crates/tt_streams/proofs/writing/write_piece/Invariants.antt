-- What is written is a prefix of the text, each turn writes some more, and adds no retry.
use Rattle.std.proofs.Common.{◌-◌, ◌≤◌, length, take}
use Rattle.std.specs.Io.KnownBytes.{Appends}
use Rattle.tt_streams.proofs.writing.write_piece.Given as goal

abbrev pub invariant-loop-written : goal.invariant-loop-written
invariant-loop-written g l = record {
  within : l.written ≤ length l.text;
  appended : Appends (g.W.Write.contents l.initial.writer) (g.W.Write.contents l.writer) (take l.written l.text);
  retries : l.retries ≤ l.initial.retries;
}

abbrev pub decreases-loop-written : goal.decreases-loop-written
decreases-loop-written g l = length l.text - l.written
