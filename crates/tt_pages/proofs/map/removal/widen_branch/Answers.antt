use Rattle.std.proofs.Common.{arith, ◌<◌, ◌++◌, suc, length, get_or, subst, sym, ap, ◌∙◌, IsTrue, int_cmp, add-one}
use Rattle.std.specs.FinMap.Entries.{is_sorted}
use Rattle.tt_pages.proofs.MapJoinLemmas.{neighbors-sorted}
use Rattle.tt_pages.proofs.map.removal.widen_branch.Goals as goal

pub join-requires-clause-sorted : goal.join-requires-clause-sorted
join-requires-clause-sorted g c =
    let bs = c.args.branches.now.items in
    let left = c.saturating_sub-left.result in
    let at_within : c.branch_for-at.result < length bs = subst (λ es. c.branch_for-at.result < length es) c.deref.ensures.value c.branch_for-at.ensures.within in
    let within : suc left < length bs = omega (arith, at_within, c.requires.many, c.saturating_sub-left.ensures) in
    let sorted = neighbors-sorted bs left within c.requires.fork.sorted c.index-2.result.now c.index-3.result.now in
    let low = c.tree-2.ensures ∙ ap (λ b. b.tree) c.index-2.ensures in
    let high = c.tree-3.ensures ∙ ap (λ b. b.tree) (c.index-3.ensures ∙ ap (λ n. get_or bs n c.index-3.result.now) (add-one left)) in
    subst (λ tree. IsTrue (is_sorted int_cmp (tree.entries ++ c.tree-3.result.now.entries))) (sym low) (subst (λ tree. IsTrue (is_sorted int_cmp ((get_or bs left c.index-2.result.now).tree.entries ++ tree.entries))) (sym high) sorted)
