-- a round that is stopped, behind the rounds so far
use Rattle.tt_repair.proofs.GrowthLemmas.{stopped_later}
use Rattle.tt_repair.proofs.repairing.catch_up.Goals as goal

pub returns-in-Err-clause-stopped : goal.returns-in-Err-clause-stopped
returns-in-Err-clause-stopped g c = stopped_later _ _ _ _ _ _ _ c.loop.invariant c.in-Err.ensures.stopped.stopped
