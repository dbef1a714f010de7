-- At the end the two places meet.
use Rattle.std.proofs.Common.{◌≡◌, true, arith, subst}
use Rattle.tt_generations.specs.ReexecutedSlots.{begins_above}
use Rattle.tt_generations.proofs.search.count_up_to.Goals as goal

pub returns : goal.returns
returns c =
    let last = c.loop-low.invariant in
    let met : c.loop-low.high ≡ c.loop-low.low = omega (arith, last.ordered, c.loop-low-test.false) in
    record {
      before = last.before;
      behind = subst (λ n. begins_above c.args.numbers.now c.args.number n ≡ true) met last.behind;
    }
