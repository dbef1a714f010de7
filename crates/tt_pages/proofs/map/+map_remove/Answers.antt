use Rattle.std.proofs.Common.{rules, arith, length, suc, sym, ap, subst, ◌∙◌, ◌+◌, ◌*◌, ◌^◌, ◌<◌, ◌≤◌, IsSome, int_cmp}
use Rattle.std.proofs.lemmas.Result.{on_ok_weaker}
use Rattle.std.specs.FinMap.Entries.{find}
use Rattle.tt_pages.specs.MapEntries.{entries_without}
use Rattle.tt_pages.specs.MapTree.{IsNode, IsPage, node_value, branch_depth, branch_entries, min_width}
use Rattle.tt_pages.proofs.MapEntriesLemmas.{sorted-without, length-without_ge}
use Rattle.tt_pages.proofs.MapBranchLemmas.{without-at_key, find-branch, branch-at, branch-less, page-without, call-ok, call-err, call-branches, on_err_weaker, depth-is}
use Rattle.tt_pages.proofs.map.+map_remove.Goals as goal

pub removal::remove_in_fork-remove-requires : goal.removal::remove_in_fork-remove-requires
removal::remove_in_fork-remove-requires g t c κs within =
    let key = c.args.key.now in
    let d = branch_depth c.args.branches.now.items in
    let bs = c.widen_branch.new.branches.items in
    let b = c.index_mut.result.now in
    let given = c.in_ok-at.ensures in
    let is = branch-at d bs c.in_ok-at.at b given.fork given.within c.index_mut.ensures.value in
    let same = find-branch key d bs c.in_ok-at.at b given.fork.each given.fork.sorted given.is_for c.index_mut.ensures.value ∙ ap (find int_cmp key) given.same in
    let present : IsSome (find int_cmp key b.tree.entries) = subst IsSome (sym same) c.requires.present in
    let wide : min_width < b.tree.width = subst (λ x. min_width < x.tree.width) (sym c.index_mut.ensures.value) (given.wide b) in
    let many : 1 < b.tree.width = omega (arith, wide) in
    let full : min_width ^ suc b.tree.depth ≤ length b.tree.entries = subst (λ n. min_width ^ suc n ≤ length b.tree.entries) (sym is.depth) is.full in
    let falls : 5 * b.tree.depth + 3 < t = omega (arith, c.decreases, is.depth) in
    search rules

pub removal::remove_in_fork-returns-clause-fork : goal.removal::remove_in_fork-returns-clause-fork
removal::remove_in_fork-returns-clause-fork g t c =
    let key = c.args.key.now in
    let d = branch_depth c.args.branches.now.items in
    let bs = c.widen_branch.new.branches.items in
    let b = c.index_mut.result.now in
    let x = c.remove.new.self in
    let given = c.in_ok-at.ensures in
    let wide : min_width < b.tree.width = subst (λ x. min_width < x.tree.width) (sym c.index_mut.ensures.value) (given.wide b) in
    let is = branch-at d bs c.in_ok-at.at b given.fork given.within c.index_mut.ensures.value in
    call-branches key d (entries_without key) (without-at_key key) bs c.in_ok-at.at b x given.fork given.is_for c.index_mut.ensures.value c.remove.result c.remove.ensures.ok c.remove.ensures.err (sorted-without key (branch_entries bs) given.fork.sorted) (branch-less d b x is wide c.remove.ensures.first c.remove.ensures.depth c.remove.ensures.width c.remove.ensures.full)

pub removal::remove_in_fork-returns-clause-ok : goal.removal::remove_in_fork-returns-clause-ok
removal::remove_in_fork-returns-clause-ok g t c =
    let key = c.args.key.now in
    let bs = c.widen_branch.new.branches.items in
    let given = c.in_ok-at.ensures in
    on_ok_weaker c.remove.result (λ ok. ok ∙ ap (entries_without key) given.same) (call-ok key (branch_depth c.args.branches.now.items) (entries_without key) (without-at_key key) bs c.in_ok-at.at c.index_mut.result.now c.remove.new.self given.fork given.is_for c.index_mut.ensures.value c.remove.result c.remove.ensures.ok)

pub removal::remove_in_fork-returns-clause-err : goal.removal::remove_in_fork-returns-clause-err
removal::remove_in_fork-returns-clause-err g t c =
    let key = c.args.key.now in
    let bs = c.widen_branch.new.branches.items in
    let given = c.in_ok-at.ensures in
    on_err_weaker c.remove.result (λ err. err ∙ given.same) (call-err key (branch_depth c.args.branches.now.items) (entries_without key) (without-at_key key) bs c.in_ok-at.at c.index_mut.result.now c.remove.new.self given.fork given.is_for c.index_mut.ensures.value c.remove.result c.remove.ensures.err)

pub tree::Node::remove-returns-in-Leaf-clause-node : goal.tree::Node::remove-returns-in-Leaf-clause-node
tree::Node::remove-returns-in-Leaf-clause-node g t c =
    let page = subst IsNode c.in-Leaf.is c.requires.node in
    let many = subst (λ node. 1 < (node_value node).width) c.in-Leaf.is c.requires.many in
    subst IsPage (sym c.remove_in.ensures) (page-without c.args.key.now c.in-Leaf.page.items page many)

pub tree::Node::remove-returns-in-Leaf-clause-width : goal.tree::Node::remove-returns-in-Leaf-clause-width
tree::Node::remove-returns-in-Leaf-clause-width g t c =
    let page = subst IsNode c.in-Leaf.is c.requires.node in
    let es = c.in-Leaf.page.items in
    subst (λ node. (node_value node).width ≤ suc (length c.remove_in.new.page.items)) (sym c.in-Leaf.is) (omega (arith, length-without_ge c.args.key.now es page.sorted, ap length c.remove_in.ensures))

pub tree::Node::remove-returns-in-Fork-clause-depth : goal.tree::Node::remove-returns-in-Fork-clause-depth
tree::Node::remove-returns-in-Fork-clause-depth g t c =
    let fork = c.remove_in_fork.ensures.fork in
    ap suc (depth-is _ c.remove_in_fork.new.branches.items fork.filled fork.each) ∙ ap (λ node. (node_value node).depth) (sym c.in-Fork.is)
