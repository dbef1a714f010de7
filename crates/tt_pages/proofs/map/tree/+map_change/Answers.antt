use Rattle.std.specs.Ordering.{int_cmp}
use Rattle.std.specs.FinMap.Entries.{find}
use Rattle.std.proofs.Common.{rules, arith, ◌≡◌, is_some, length, suc, sym, ap, subst, ◌∙◌, ◌<◌, ◌+◌, ◌*◌}
use Rattle.std.proofs.lemmas.Result.{on_ok_weaker, IfOk-weaker}
use Rattle.tt_pages.specs.MapEntries.{FitsAt}
use Rattle.tt_pages.specs.MapTree.{IsNode, node_value, branch_entries, branch_depth}
use Rattle.tt_pages.specs.MapBranches.{IsBranchFor}
use Rattle.tt_pages.proofs.MapEntriesLemmas.{length-keys}
use Rattle.tt_pages.proofs.MapBranchLemmas.{depth-is, branch-at}
use Rattle.tt_pages.proofs.MapReplacingLemmas.{page-kept, keys-set_branch, branches-kept, ChangesAt-branch, StaysWithout-branch, found-branch, FitsAt-branch, MovesAt-branch}
use Rattle.tt_pages.proofs.map.tree.+map_change.Goals as goal

pub Node::change_in_fork-returns-clause-fork : goal.Node::change_in_fork-returns-clause-fork
Node::change_in_fork-returns-clause-fork g t c =
    let bs = c.args.branches.now.items in
    let at = c.branch_for-at.result in
    let within = subst (λ bs. at < length bs) c.deref.ensures.value c.branch_for-at.ensures.within in
    branches-kept (branch_depth bs) bs at c.index_mut.result.now c.change.new.self c.requires.fork c.index_mut.ensures.value within c.change.ensures.first c.change.ensures.depth c.change.ensures.width c.change.ensures.keys

pub Node::change_in_fork-returns-clause-keys : goal.Node::change_in_fork-returns-clause-keys
Node::change_in_fork-returns-clause-keys g t c =
    keys-set_branch c.args.branches.now.items c.branch_for-at.result c.index_mut.result.now c.change.new.self c.index_mut.ensures.value c.change.ensures.keys

pub Node::change_in_fork-returns-clause-ok : goal.Node::change_in_fork-returns-clause-ok
Node::change_in_fork-returns-clause-ok g t c =
    let key = c.args.key.now in
    let bs = c.args.branches.now.items in
    let is_for = subst (λ bs. IsBranchFor key bs c.branch_for-at.result) c.deref.ensures.value c.branch_for-at.ensures.is_for in
    on_ok_weaker c.change.result (ChangesAt-branch (branch_depth bs) bs c.branch_for-at.result c.index_mut.result.now c.change.new.self c.requires.fork c.index_mut.ensures.value key (g.M.ModifyWith.after c.args.change.now) is_for) c.change.ensures.ok

pub Node::change_in_fork-returns-clause-stays : goal.Node::change_in_fork-returns-clause-stays
Node::change_in_fork-returns-clause-stays g t c =
    let key = c.args.key.now in
    let bs = c.args.branches.now.items in
    let is_for = subst (λ bs. IsBranchFor key bs c.branch_for-at.result) c.deref.ensures.value c.branch_for-at.ensures.is_for in
    on_ok_weaker c.change.result (StaysWithout-branch (branch_depth bs) bs c.branch_for-at.result c.index_mut.result.now c.change.new.self c.requires.fork c.index_mut.ensures.value key is_for) c.change.ensures.stays

pub Node::change_in_fork-change-requires : goal.Node::change_in_fork-change-requires
Node::change_in_fork-change-requires g t c κs within =
    let key = c.args.key.now in
    let bs = c.args.branches.now.items in
    let d = branch_depth bs in
    let b = c.index_mut.result.now in
    let at = c.branch_for-at.result in
    let here : at < length bs = subst (λ bs. at < length bs) c.deref.ensures.value c.branch_for-at.ensures.within in
    let is_for = subst (λ bs. IsBranchFor key bs at) c.deref.ensures.value c.branch_for-at.ensures.is_for in
    let is = branch-at d bs at b c.requires.fork here c.index_mut.ensures.value in
    let fits : FitsAt key (g.M.ModifyWith.fits c.args.change.now) b.tree.entries c.args.context.now = FitsAt-branch d bs at b b c.requires.fork c.index_mut.ensures.value key (g.M.ModifyWith.fits c.args.change.now) c.args.context.now is_for c.requires.fits in
    let falls : 5 * b.tree.depth + 3 < t = omega (arith, c.decreases, is.depth) in
    search rules

pub Node::change_in_fork-returns-clause-moves : goal.Node::change_in_fork-returns-clause-moves
Node::change_in_fork-returns-clause-moves g t c =
    let key = c.args.key.now in
    let bs = c.args.branches.now.items in
    let is_for = subst (λ bs. IsBranchFor key bs c.branch_for-at.result) c.deref.ensures.value c.branch_for-at.ensures.is_for in
    on_ok_weaker c.change.result (MovesAt-branch (branch_depth bs) bs c.branch_for-at.result c.index_mut.result.now c.change.new.self c.requires.fork c.index_mut.ensures.value key (g.M.ModifyWith.moves c.args.change.now) c.args.context.now c.change.new.context is_for) c.change.ensures.moves

pub Node::change_in_fork-returns-clause-found : goal.Node::change_in_fork-returns-clause-found
Node::change_in_fork-returns-clause-found g t c =
    let key = c.args.key.now in
    let bs = c.args.branches.now.items in
    let is_for = subst (λ bs. IsBranchFor key bs c.branch_for-at.result) c.deref.ensures.value c.branch_for-at.ensures.is_for in
    IfOk-weaker c.change.result (λ found. found ≡ is_some (find int_cmp key c.index_mut.result.now.tree.entries)) (λ found. found ≡ is_some (find int_cmp key (branch_entries bs)))
    (λ found is. is ∙ found-branch (branch_depth bs) bs c.branch_for-at.result c.index_mut.result.now c.change.new.self c.requires.fork c.index_mut.ensures.value key is_for) c.change.ensures.found

pub Node::change-returns-in-Leaf-clause-node : goal.Node::change-returns-in-Leaf-clause-node
Node::change-returns-in-Leaf-clause-node g t c =
    page-kept c.in-Leaf.page.items c.change_in.new.page.items c.change_in.ensures.keys (subst IsNode c.in-Leaf.is c.requires.node)

pub Node::change-returns-in-Leaf-clause-width : goal.Node::change-returns-in-Leaf-clause-width
Node::change-returns-in-Leaf-clause-width g t c =
    length-keys c.change_in.new.page.items c.in-Leaf.page.items c.change_in.ensures.keys ∙ ap (λ node. (node_value node).width) (sym c.in-Leaf.is)

pub Node::change-returns-in-Fork-clause-depth : goal.Node::change-returns-in-Fork-clause-depth
Node::change-returns-in-Fork-clause-depth g t c =
    let fork = c.change_in_fork.ensures.fork in
    ap suc (depth-is _ c.change_in_fork.new.branches.items fork.filled fork.each) ∙ ap (λ node. (node_value node).depth) (sym c.in-Fork.is)
