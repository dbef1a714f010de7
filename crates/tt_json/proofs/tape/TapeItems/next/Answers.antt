-- One item is taken of those that are left.
use Rattle.std.proofs.Common.{Some, None, ap, sym, ◌∙◌, arith}
use Rattle.tt_json.specs.Tape.{items_at}
use Rattle.tt_json.proofs.ItemsLemmas.{items-next, items-fewer}
use Rattle.tt_json.proofs.tape.TapeItems.next.Goals as goal

pub invariant_of-result : goal.invariant_of-result
invariant_of-result c = (items-next _ _ (Some c.in-Some.element) c.self.invariant.0 c.in-Some.ensures.value).0

pub invariant_of-self : goal.invariant_of-self
invariant_of-self c =
    let fewer = items-fewer _ _ (Some c.in-Some.element) c.self.invariant.0 c.in-Some.ensures.value in
    (fewer.0, omega (arith, fewer.1, c.self.invariant.1, c.saturating_sub-self-inside.ensures))

pub returns-in-Some-clause-value : goal.returns-in-Some-clause-value
returns-in-Some-clause-value c = ap items_at (sym c.self.view_is) ∙ (items-next _ _ (Some c.in-Some.element) c.self.invariant.0 c.in-Some.ensures.value).2

pub returns-in-None-clause-value : goal.returns-in-None-clause-value
returns-in-None-clause-value c = ap items_at (sym c.self.view_is) ∙ items-next _ c.next.new.self None c.self.invariant.0 c.in-None.ensures.value
