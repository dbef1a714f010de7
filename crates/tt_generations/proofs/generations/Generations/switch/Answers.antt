-- The slots and the rows of the next generation are those of the current one then.
use Rattle.std.proofs.Common.{◌≡◌, ap, subst, sym, ◌∙◌}
use Rattle.tt_generations.specs.TwoGenerations.{TwoGenerations, Idle, left_of, after_switch}
use Rattle.tt_generations.proofs.GenerationsLemmas.{AreGenerations-switched, actions-next}
use Rattle.tt_generations.proofs.generations.Generations.switch.Goals as goal

pub invariant_of-self : goal.invariant_of-self
invariant_of-self c =
    let g = c.self.inside.state in
    let left = subst (λ (G : TwoGenerations). left_of G.phase G.slots ≡ 0) (sym c.self.view_is) c.requires in
    rw (c.take_next_slots.ensures) (AreGenerations-switched g.catalog g.slots g.rows c.unsplit.new.self g.repair c.self.invariant left c.in-Ok.ensures)

pub returns-in-Ok-clause-state : goal.returns-in-Ok-clause-state
returns-in-Ok-clause-state c =
    let g = c.self.inside.state in
    let left = subst (λ (G : TwoGenerations). left_of G.phase G.slots ≡ 0) (sym c.self.view_is) c.requires in
    rw (c.take_next_slots.ensures) ((λ i. record { catalog = g.catalog; slots = actions-next g.catalog g.slots g.rows g.repair c.self.invariant left i; phase = Idle }) ∙ ap after_switch c.self.view_is)
