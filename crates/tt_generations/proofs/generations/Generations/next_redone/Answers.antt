-- The place that divides the numbers has the first slot behind the number.
use Rattle.std.proofs.Common.{slice_get, ap, subst, ◌∙◌}
use Rattle.tt_generations.specs.declared.repair.Repair.{Repair}
use Rattle.tt_generations.specs.ReexecutedSlots.{DividesAt}
use Rattle.tt_generations.specs.SlotCauses.{next_redone_at}
use Rattle.tt_generations.specs.TwoGenerations.{TwoGenerations}
use Rattle.tt_generations.proofs.SlotCausesLemmas.{next_redone-found}
use Rattle.tt_generations.proofs.generations.Generations.next_redone.Goals as goal

pub returns : goal.returns
returns c =
    let g = c.self.inside.state in
    let repair = c.in_ok-repair.repair.now in
    let place = c.count_up_to-place.result in
    let at = subst (λ (r : Repair). DividesAt r.reexecuted c.args.number place) c.deref.ensures c.count_up_to-place.ensures in
    c.copied.ensures
    ∙ c.get.ensures
    ∙ ap (λ (r : Repair). slice_get r.reexecuted place) c.deref-2.ensures
    ∙ next_redone-found g.catalog g.slots g.rows g.repair repair c.args.number place c.self.invariant c.in_ok-repair.ensures.value at
    ∙ ap (λ (G : TwoGenerations). next_redone_at G.catalog G.phase G.slots c.args.number) c.self.view_is
