-- the count is that of the workers so far that bear the number
use Rattle.std.proofs.Common.{◌≡◌, take}
use Rattle.tt_store.specs.Closing.{bearers}
use Rattle.tt_store.proofs.closing.bearers.Given as goal

abbrev pub invariant-loop-worker : goal.invariant-loop-worker
invariant-loop-worker g l = l.count ≡ bearers l.number (take l.worker-index l.workers)
