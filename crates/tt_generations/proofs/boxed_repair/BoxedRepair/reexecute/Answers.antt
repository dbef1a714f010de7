-- What is said of the repair in the block.
use Rattle.std.proofs.Common.{OnOk, subst, ◌∙◌}
use Rattle.tt_generations.specs.declared.repair.Repair.{Repair}
use Rattle.tt_generations.specs.Repair.{ReexecutesSlot}
use Rattle.tt_generations.proofs.boxed_repair.BoxedRepair.reexecute.Goals as goal

pub returns-clause-rows : goal.returns-clause-rows
returns-clause-rows c =
    subst (λ (r : Repair). OnOk c.reexecute.result (ReexecutesSlot r c.args.kept.now c.args.rows.now c.reexecute.new.self c.reexecute.new.rows)) (c.deref_mut.ensures.value ∙ c.self.view_is) c.reexecute.ensures.rows
