-- A failed write adds nothing to the writer, and each further turn uses a retry.
use Rattle.std.proofs.Common.{◌≤◌}
use Rattle.std.specs.Io.KnownBytes.{Keeps}
use Rattle.tt_streams.proofs.writing.write_once.Given as goal

abbrev pub invariant-loop-count : goal.invariant-loop-count
invariant-loop-count g l = record {
  unchanged : Keeps (g.W.Write.contents l.initial.writer) (g.W.Write.contents l.writer);
  retries : l.retries ≤ l.initial.retries;
}

abbrev pub decreases-loop-count : goal.decreases-loop-count
decreases-loop-count g l = l.retries
