-- The next worker has seen a beginning of it too.
use Rattle.tt_store.specs.Closing.{IsBehind}
use Rattle.tt_store.proofs.ClosingLemmas.{up_to_next}
use Rattle.tt_store.proofs.closing.are_behind.Goals as goal

pub loop-worker-preserved : goal.loop-worker-preserved
loop-worker-preserved g c =
    up_to_next (IsBehind c.args.core.now) c.args.workers.now c.loop-worker.worker-index c.worker-item.result c.loop-worker-test.true c.worker-item.is
    (c.is_ahead_of.ensures c.if-not-is_ahead_of.false) c.loop-worker.invariant
