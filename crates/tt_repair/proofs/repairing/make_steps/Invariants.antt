-- as many publishes of steps were made as the loop has counted
use Rattle.tt_repair.proofs.GrowthLemmas.{MadePublishes}
use Rattle.tt_repair.proofs.repairing.make_steps.Given as goal

abbrev pub invariant-loop : goal.invariant-loop
invariant-loop g l = MadePublishes g.L.Naming.limits l.fn.batch l.counter l.fn.worker l.worker
