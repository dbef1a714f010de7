-- the rounds so far were of steps
use Rattle.tt_repair.specs.Growth.{MadeSteps}
use Rattle.tt_repair.proofs.repairing.catch_up.Given as goal

abbrev pub invariant-loop : goal.invariant-loop
invariant-loop g l = MadeSteps g.L.Naming.limits l.fn.worker l.worker
