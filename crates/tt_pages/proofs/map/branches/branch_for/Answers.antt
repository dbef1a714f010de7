use Rattle.std.proofs.Common.{arith, ◌≡◌, sym, ap, ◌∙◌, false}
use Rattle.std.specs.Ordering.{int_cmp, is_lt}
use Rattle.tt_pages.specs.MapTree.{branch_depth}
use Rattle.tt_pages.proofs.MapBranchLemmas.{is_branch_for, is_first_for}
use Rattle.tt_pages.proofs.map.branches.branch_for.Goals as goal

pub returns-else-is_above-2-clause-is_for : goal.returns-else-is_above-2-clause-is_for
returns-else-is_above-2-clause-is_for g c =
    let bs = c.args.branches.now in
    let e = c.index-branches-at-in-loop-at-2.result in
    let not_above : is_lt (int_cmp c.args.key.now e.first) ≡ false = sym c.is_above-in-loop-at-2.ensures ∙ c.if-is_above-2.false in
    let here = ap (λ b. is_lt (int_cmp c.args.key.now b.first)) (sym c.index-branches-at-in-loop-at-2.is) ∙ not_above in
    is_branch_for c.args.key.now (branch_depth bs) bs c.loop-at-2.at e c.loop-at-2.invariant.0 c.requires.each c.requires.sorted (λ _. here) c.loop-at-2.invariant.1

pub returns-after-loop-at-2-clause-is_for : goal.returns-after-loop-at-2-clause-is_for
returns-after-loop-at-2-clause-is_for g c =
    let bs = c.args.branches.now in
    is_first_for c.args.key.now (branch_depth bs) bs c.loop-at-2.at c.loop-at-2.invariant.0 c.requires.each c.requires.sorted (omega (arith, c.loop-at-2-test.false)) c.loop-at-2.invariant.1
