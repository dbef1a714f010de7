-- What is kept behind the first slots are the slots behind them.
use Rattle.std.proofs.Common.{◌≡◌, List, map, drop, sym, ap, subst, ◌∙◌}
use Rattle.tt_values.specs.RowWrites.{Slots}
use Rattle.tt_generations.specs.declared.slot.Slot.{Slot}
use Rattle.tt_generations.specs.declared.slot.KeptSlot.{KeptSlot}
use Rattle.tt_generations.specs.TwoGenerations.{TwoGenerations}
use Rattle.tt_generations.specs.SlotsAfter.{AreSlotsAfter}
use Rattle.tt_generations.proofs.SlotsLemmas.{slots-after}
use Rattle.tt_generations.proofs.generations.Generations.slots_after.Goals as goal

pub returns : goal.returns
returns c =
    let kept = c.self.inside.state.slots in
    let given : c.of.result ≡ map (λ k. k.slot) (drop c.args.count kept) = c.of.ensures ∙ ap (map (λ k. k.slot)) c.iter_from.ensures in
    subst (λ (s : List Slot). AreSlotsAfter c.args.count c.args.self.now.slots s) (sym given)
    (subst (λ (G : TwoGenerations). AreSlotsAfter c.args.count G.slots (map (λ k. k.slot) (drop c.args.count kept))) c.self.view_is
    (slots-after c.args.count kept c.self.invariant.slots))
