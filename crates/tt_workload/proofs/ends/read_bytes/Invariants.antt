-- The bytes so far are those that the reader lost, and not too many; each turn reads some more, and adds no retry.
use Rattle.std.proofs.Common.{◌+◌, ◌-◌, ◌≤◌, length}
use Rattle.std.specs.Io.KnownBytes.{Consumes}
use Rattle.tt_workload.specs.Ends.{max_bytes_read}
use Rattle.tt_workload.proofs.ends.read_bytes.Given as goal

abbrev pub invariant-loop-buffer : goal.invariant-loop-buffer
invariant-loop-buffer g l = record {
  short : length l.bytes.items ≤ max_bytes_read;
  consumed : Consumes (g.R.Read.remaining l.initial.reader) (g.R.Read.remaining l.reader) l.bytes.items;
}

abbrev pub decreases-loop-buffer : goal.decreases-loop-buffer
decreases-loop-buffer g l = (max_bytes_read - length l.bytes.items) + l.retries
