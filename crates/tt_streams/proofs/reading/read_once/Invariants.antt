-- The buffer has its length, a failed read consumes nothing, and each further turn uses a retry.
use Rattle.std.proofs.Common.{◌≡◌, ◌≤◌, length}
use Rattle.std.specs.Io.KnownBytes.{Keeps}
use Rattle.tt_streams.proofs.reading.read_once.Given as goal

abbrev pub invariant-loop-count : goal.invariant-loop-count
invariant-loop-count g l = record {
  same_length : length l.buffer ≡ length l.initial.buffer;
  unchanged : Keeps (g.R.Read.remaining l.initial.reader) (g.R.Read.remaining l.reader);
  retries : l.retries ≤ l.initial.retries;
}

abbrev pub decreases-loop-count : goal.decreases-loop-count
decreases-loop-count g l = l.retries
