-- The slots done are kept as the next generation has them.
use Rattle.std.proofs.Common.{◌≡◌, ◌≤◌, Some, slice_get, arith, sym, ap, subst, ◌∙◌}
use Rattle.tt_generations.specs.declared.repair.Repair.{Repair}
use Rattle.tt_generations.specs.KeptSlots.{actions_of}
use Rattle.tt_generations.specs.TwoGenerations.{TwoGenerations, next_slot_at}
use Rattle.tt_generations.proofs.GenerationsLemmas.{next_slot-done}
use Rattle.tt_generations.proofs.generations.Generations.next_slot.Goals as goal

pub returns : goal.returns
returns c =
    let g = c.self.inside.state in
    let repair = c.in_ok-repair.repair.now in
    let within : c.args.number ≤ repair.done = subst (λ (r : Repair). c.args.number ≤ r.done) c.deref.ensures (omega (arith, c.if-number-deref.false)) in
    let kept : slice_get repair.slots c.in_ok-position.position ≡ Some c.in_ok-kept.kept.now = subst (λ (r : Repair). slice_get r.slots c.in_ok-position.position ≡ Some c.in_ok-kept.kept.now) c.deref-2.ensures (sym c.in_ok-kept.ensures) in
    next_slot-done g.catalog (actions_of g.slots) g.repair repair c.args.number c.in_ok-position.position c.in_ok-kept.kept.now c.self.invariant.under_way
    c.in_ok-repair.ensures.value c.in_ok-position.ensures.0 within c.in_ok-position.ensures.1 kept
    ∙ ap (λ (G : TwoGenerations). next_slot_at G.phase G.slots c.args.number) c.self.view_is
