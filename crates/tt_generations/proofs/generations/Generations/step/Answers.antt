-- The state with one slot of the repair done.
use Rattle.std.proofs.Common.{◌<◌, ap, subst, sym, ◌∙◌}
use Rattle.tt_generations.specs.KeptSlots.{actions_of}
use Rattle.tt_generations.specs.TwoGenerations.{TwoGenerations, left_of, after_step, is_next_due}
use Rattle.tt_generations.proofs.generations.Generations.step.Goals as goal

pub step-requires-clause-left : goal.step-requires-clause-left
step-requires-clause-left c = subst (λ (G : TwoGenerations). 0 < left_of G.phase G.slots) (sym c.self.view_is) c.requires

pub returns-in-Ok-clause-state : goal.returns-in-Ok-clause-state
returns-in-Ok-clause-state c =
    let new = c.in-Ok.ensures in
    (λ i. record { catalog = new.catalog i; slots = actions_of (new.slots i); phase = new.phase i }) ∙ ap after_step c.self.view_is

pub returns-in-Ok-clause-due : goal.returns-in-Ok-clause-due
returns-in-Ok-clause-due c = c.in-Ok.ensures.due ∙ ap is_next_due c.self.view_is
