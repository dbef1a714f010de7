-- Each item that is taken is counted.
use Rattle.std.proofs.Common.{arith, Some, None}
use Rattle.tt_json.proofs.ItemsLemmas.{few_items, items-fewer}
use Rattle.tt_json.proofs.tape.count.Goals as goal

pub loop-count-init : goal.loop-count-init
loop-count-init c = (c.requires, omega arith, few_items _ c.requires)

pub overflow_add-count : goal.overflow_add-count
overflow_add-count c =
    let fewer = items-fewer _ _ (Some c.in-Some.field-0) c.loop-count.invariant.0 c.in-Some.ensures.value in
    omega (arith, fewer.1, c.loop-count.invariant.1, c.loop-count.invariant.2)

pub loop-count-preserved : goal.loop-count-preserved
loop-count-preserved c =
    let fewer = items-fewer _ _ (Some c.in-Some.field-0) c.loop-count.invariant.0 c.in-Some.ensures.value in
    (fewer.0, omega (arith, fewer.1, c.loop-count.invariant.1), c.loop-count.invariant.2)

pub returns : goal.returns
returns c = omega (arith, items-fewer _ c.next.new.self None c.loop-count.invariant.0 c.in_default.ensures.value, c.loop-count.invariant.1)
