-- The state with one slot of the repair done, which was due.
use Rattle.std.proofs.Common.{◌<◌, ap, subst, sym, ◌∙◌}
use Rattle.tt_generations.specs.KeptSlots.{actions_of}
use Rattle.tt_generations.specs.TwoGenerations.{TwoGenerations, left_of, after_step, is_next_due}
use Rattle.tt_generations.proofs.generations.Generations.step_due.Goals as goal

pub step_due-requires-clause-left : goal.step_due-requires-clause-left
step_due-requires-clause-left c = subst (λ (G : TwoGenerations). 0 < left_of G.phase G.slots) (sym c.self.view_is) c.requires.left

pub step_due-requires-clause-due : goal.step_due-requires-clause-due
step_due-requires-clause-due c = ap is_next_due c.self.view_is ∙ c.requires.due

pub returns-in-Ok-clause-state : goal.returns-in-Ok-clause-state
returns-in-Ok-clause-state c =
    let new = c.in-Ok.ensures in
    (λ i. record { catalog = new.catalog i; slots = actions_of (new.slots i); phase = new.phase i }) ∙ ap after_step c.self.view_is
