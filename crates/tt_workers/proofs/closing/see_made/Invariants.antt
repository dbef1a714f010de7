-- of each worker so far
use Rattle.std.proofs.Common.{ℕ, ◌<◌, get_or}
use Rattle.tt_store.specs.History.{places_of}
use Rattle.tt_store.specs.Workers.{WorkerState, IsAmong}
use Rattle.tt_workers.proofs.closing.see_made.Given as goal

abbrev pub invariant-loop-worker : goal.invariant-loop-worker
invariant-loop-worker g l = (k : ℕ) (d : WorkerState) → k < l.worker-index → (let w = get_or l.workers k d in IsAmong w.own (places_of w.number w.seen))
