-- the tries so far have published nothing
use Rattle.tt_store.specs.Workers.{Looks}
use Rattle.tt_store.proofs.store.Store.publish.Given as goal

abbrev pub invariant-loop : goal.invariant-loop
invariant-loop g l = Looks l.fn.worker l.worker
