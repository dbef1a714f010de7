-- The next worker's places are among those too.
use Rattle.tt_store.specs.History.{places_of}
use Rattle.tt_store.specs.Workers.{IsAmong}
use Rattle.tt_store.proofs.ClosingLemmas.{up_to_next}
use Rattle.tt_workers.proofs.closing.see_made.Goals as goal

pub loop-worker-preserved : goal.loop-worker-preserved
loop-worker-preserved g c =
    up_to_next (λ w. IsAmong w.own (places_of w.number w.seen)) c.args.workers.now c.loop-worker.worker-index c.worker-item.result c.loop-worker-test.true c.worker-item.is
    c.made.ensures.own c.loop-worker.invariant
