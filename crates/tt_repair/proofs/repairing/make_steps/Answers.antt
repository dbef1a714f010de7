-- as many publishes as the slots need, or one that is refused before
use Rattle.std.proofs.Common.{refl, arith}
use Rattle.tt_repair.proofs.GrowthLemmas.{publishes_more, made_all, stopped_early}
use Rattle.tt_repair.proofs.repairing.make_steps.Goals as goal

pub returns-in-Err-clause-stopped : goal.returns-in-Err-clause-stopped
returns-in-Err-clause-stopped g c =
    stopped_early _ _ _ _ _ _ _ _ _ _ _ _
    (record { left_is = c.slots_left.ensures; publishes_is = c.div_ceil-publishes.ensures; step_is = c.from.ensures; some = c.requires })
    c.loop-test.true c.loop.invariant (_, λ S. refl, c.in-Err.ensures.refused)

pub loop-preserved : goal.loop-preserved
loop-preserved g c = publishes_more _ _ _ _ _ _ _ _ _ c.requires (omega arith) c.loop.invariant c.in-Ok.ensures.stepped

pub returns-clause-made : goal.returns-clause-made
returns-clause-made g c =
    made_all _ _ _ _ _ _ _ _
    (record { left_is = c.slots_left.ensures; publishes_is = c.div_ceil-publishes.ensures; step_is = c.from.ensures; some = c.requires })
    c.loop-test.false c.loop.invariant
