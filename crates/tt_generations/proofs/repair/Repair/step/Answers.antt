-- A slot that is due is re-executed with the action that the repair gives it.
use Rattle.tt_generations.proofs.repair.Repair.step.Goals as goal

pub returns-clause-step : goal.returns-clause-step
returns-clause-step c =
    (c.in_ok-reexecute_as.ensures.done, c.in_ok-reexecute_as.ensures.rows)
