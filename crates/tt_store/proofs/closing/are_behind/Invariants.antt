-- the workers so far have seen beginnings of the history
use Rattle.std.proofs.Common.{ℕ, ◌<◌, get_or}
use Rattle.tt_store.specs.Workers.{WorkerState}
use Rattle.tt_store.specs.Closing.{IsBehind}
use Rattle.tt_store.proofs.closing.are_behind.Given as goal

abbrev pub invariant-loop-worker : goal.invariant-loop-worker
invariant-loop-worker g l = (k : ℕ) (d : WorkerState) → k < l.worker-index → IsBehind l.core (get_or l.workers k d)
