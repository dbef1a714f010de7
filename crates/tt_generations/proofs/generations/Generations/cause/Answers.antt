-- The slot is kept, and the repair has done it.
use Rattle.std.proofs.Common.{◌≤◌, arith, sym, ap, subst, ◌∙◌}
use Rattle.tt_generations.specs.declared.repair.Repair.{Repair}
use Rattle.tt_generations.specs.Repair.{kept_cause}
use Rattle.tt_generations.specs.SlotCauses.{cause_at}
use Rattle.tt_generations.specs.TwoGenerations.{TwoGenerations}
use Rattle.tt_generations.proofs.SlotCausesLemmas.{cause-found, keys-found}
use Rattle.tt_generations.proofs.generations.Generations.cause.Goals as goal

pub cause-requires-clause-keyed : goal.cause-requires-clause-keyed
cause-requires-clause-keyed c =
    let g = c.self.inside.state in
    keys-found g.catalog g.slots c.in_ok-position.position c.in_ok-kept.kept.now c.self.invariant.catalog c.self.invariant.accepted (sym c.in_ok-kept.ensures)

pub returns : goal.returns
returns c =
    let g = c.self.inside.state in
    let repair = c.in_ok-repair.repair.now in
    let within : c.args.number ≤ repair.done = subst (λ (r : Repair). c.args.number ≤ r.done) c.deref.ensures (omega (arith, c.if-number-deref.false)) in
    c.cause.ensures
    ∙ ap (λ (r : Repair). kept_cause r c.args.number c.in_ok-kept.kept.now) c.deref-2.ensures
    ∙ cause-found g.catalog g.slots g.rows g.repair repair c.args.number c.in_ok-position.position c.in_ok-kept.kept.now c.self.invariant
    c.in_ok-repair.ensures.value c.in_ok-position.ensures.0 within c.in_ok-position.ensures.1 (sym c.in_ok-kept.ensures)
    ∙ ap (λ (G : TwoGenerations). cause_at G.catalog G.phase G.slots c.args.number) c.self.view_is
