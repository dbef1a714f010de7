use Rattle.std.proofs.Common.{arith, ◌≡◌, ◌≤◌, ◌++◌, suc, length, subst, sym, ap, ◌∙◌, All, IsTrue, int_cmp}
use Rattle.std.proofs.lemmas.Grind.{common_steps}
use Rattle.std.specs.FinMap.Entries.{is_sorted}
use Rattle.tt_pages.specs.MapTree.{AreBranches, IsBranch, branch_depth, branch_entries, fork_value}
use Rattle.tt_pages.proofs.MapBranchLemmas.{branches-are, branch_entries-append}
use Rattle.tt_pages.proofs.MapJoinLemmas.{both-are, both-each, both-sorted, both-depth, join-is, even-parts}
use Rattle.tt_pages.proofs.map.joining.join_forks.Goals as goal

pub of-requires-clause-node : goal.of-requires-clause-node
of-requires-clause-node g c =
    let low = c.args.low.now in
    let high = c.args.high.now in
    let all = c.add_shared.new.to.items in
    let is : all ≡ low ++ high = c.in_ok-add_shared.ensures ∙ ap (λ bs. bs ++ high) c.in_ok-branches.ensures in
    let fits : length all ≤ 16 = grind (arith, common_steps, c.len.ensures, c.if-len-le-MAX_WIDTH.true) in
    branches-are (branch_depth low) all (subst (AreBranches (branch_depth low)) (sym is) (both-are (branch_depth low) low high c.requires.low c.requires.high c.requires.sorted (omega (arith, fits, ap length is))))

pub returns-then-len-le-MAX_WIDTH : goal.returns-then-len-le-MAX_WIDTH
returns-then-len-le-MAX_WIDTH g c =
    let low = c.args.low.now in
    let high = c.args.high.now in
    let all = c.add_shared.new.to.items in
    let is : all ≡ low ++ high = c.in_ok-add_shared.ensures ∙ ap (λ bs. bs ++ high) c.in_ok-branches.ensures in
    let fits : length all ≤ 16 = grind (arith, common_steps, c.len.ensures, c.if-len-le-MAX_WIDTH.true) in
    join-is (branch_depth low) low high c.requires.low c.requires.high c.requires.sorted all c.in_ok-of.field-0 is fits c.requires.low_wide c.requires.high_wide c.in_ok-of.ensures.tree c.in_ok-of.ensures.branch

pub cut_fork-requires-clause-each : goal.cut_fork-requires-clause-each
cut_fork-requires-clause-each g c =
    let low = c.args.low.now in
    let high = c.args.high.now in
    let is = c.deref.ensures.value ∙ c.in_ok-add_shared.ensures ∙ ap (λ bs. bs ++ high) c.in_ok-branches.ensures in
    let depth = both-depth (branch_depth low) low high c.requires.low c.requires.high c.requires.sorted in
    subst (λ bs. All (IsBranch (branch_depth bs)) bs) (sym is) (subst (λ d. All (IsBranch d) (low ++ high)) (sym depth) (both-each (branch_depth low) low high c.requires.low c.requires.high c.requires.sorted))

pub cut_fork-requires-clause-sorted : goal.cut_fork-requires-clause-sorted
cut_fork-requires-clause-sorted g c =
    let low = c.args.low.now in
    let high = c.args.high.now in
    let is = c.deref.ensures.value ∙ c.in_ok-add_shared.ensures ∙ ap (λ bs. bs ++ high) c.in_ok-branches.ensures in
    subst (λ bs. IsTrue (is_sorted int_cmp (branch_entries bs))) (sym is) (both-sorted (branch_depth low) low high c.requires.low c.requires.high c.requires.sorted)

pub returns : goal.returns
returns g c =
    let low = c.args.low.now in
    let high = c.args.high.now in
    let is = c.deref.ensures.value ∙ c.in_ok-add_shared.ensures ∙ ap (λ bs. bs ++ high) c.in_ok-branches.ensures in
    let depth = both-depth (branch_depth low) low high c.requires.low c.requires.high c.requires.sorted in
    let cut = c.middle_of.ensures in
    even-parts (fork_value low) (fork_value high) (fork_value c.deref.result.now) _ c.in_ok-halves.halves (ap suc (ap branch_depth is ∙ depth)) (ap branch_entries is ∙ branch_entries-append low high) cut.low (grind (arith, common_steps, cut.high, c.len-2.ensures, c.deref.ensures.len)) c.in_ok-halves.ensures
