use Rattle.std.proofs.Common.{arith, length, suc, sym, ap, subst, ◌∙◌, ◌<◌, ◌≤◌, int_cmp}
use Rattle.std.proofs.lemmas.Result.{IfOk-weaker, on_ok_weaker}
use Rattle.std.specs.Option.{is_none}
use Rattle.std.specs.FinMap.Entries.{find, put}
use Rattle.tt_pages.specs.MapTree.{IsNode, IsPage, node_value, branch_depth, branch_entries}
use Rattle.tt_pages.proofs.MapEntriesLemmas.{sorted-put, length-put_ge}
use Rattle.tt_pages.proofs.MapBranchLemmas.{put-at_key, find-branch, branch-at, branch-grown, call-ok, call-err, call-branches, page-put, either, on_err_weaker, depth-is}
use Rattle.tt_pages.proofs.map.+map_put.Goals as goal

pub putting::put_in_fork-returns-clause-fork : goal.putting::put_in_fork-returns-clause-fork
putting::put_in_fork-returns-clause-fork g t c =
    let key = c.args.key.now in
    let d = branch_depth c.args.branches.now.items in
    let bs = c.make_room.new.branches.items in
    let b = c.index_mut.result.now in
    let x = c.put.new.self in
    let given = c.in_ok-at.ensures in
    let is = branch-at d bs c.in_ok-at.at b given.fork given.within c.index_mut.ensures.value in
    let long = either c.put.result x.tree.entries _ _ (λ es. length b.tree.entries ≤ length es) c.put.ensures.ok c.put.ensures.err (length-put_ge key c.args.value b.tree.entries) (omega arith) in
    call-branches key d (put int_cmp key c.args.value) (put-at_key key c.args.value) bs c.in_ok-at.at b x given.fork given.is_for c.index_mut.ensures.value c.put.result c.put.ensures.ok c.put.ensures.err (sorted-put key c.args.value (branch_entries bs) given.fork.sorted) (branch-grown d b x is c.put.ensures.first c.put.ensures.depth c.put.ensures.width long)

pub putting::put_in_fork-returns-clause-ok : goal.putting::put_in_fork-returns-clause-ok
putting::put_in_fork-returns-clause-ok g t c =
    let key = c.args.key.now in
    let bs = c.make_room.new.branches.items in
    let given = c.in_ok-at.ensures in
    on_ok_weaker c.put.result (λ ok. ok ∙ ap (put int_cmp key c.args.value) given.same) (call-ok key (branch_depth c.args.branches.now.items) (put int_cmp key c.args.value) (put-at_key key c.args.value) bs c.in_ok-at.at c.index_mut.result.now c.put.new.self given.fork given.is_for c.index_mut.ensures.value c.put.result c.put.ensures.ok)

pub putting::put_in_fork-returns-clause-is_new : goal.putting::put_in_fork-returns-clause-is_new
putting::put_in_fork-returns-clause-is_new g t c =
    let key = c.args.key.now in
    let bs = c.make_room.new.branches.items in
    let given = c.in_ok-at.ensures in
    let same = find-branch key (branch_depth c.args.branches.now.items) bs c.in_ok-at.at c.index_mut.result.now given.fork.each given.fork.sorted given.is_for c.index_mut.ensures.value ∙ ap (find int_cmp key) given.same in
    IfOk-weaker c.put.result _ _ (λ _ h. h ∙ ap is_none same) c.put.ensures.is_new

pub putting::put_in_fork-returns-clause-err : goal.putting::put_in_fork-returns-clause-err
putting::put_in_fork-returns-clause-err g t c =
    let key = c.args.key.now in
    let bs = c.make_room.new.branches.items in
    let given = c.in_ok-at.ensures in
    on_err_weaker c.put.result (λ err. err ∙ given.same) (call-err key (branch_depth c.args.branches.now.items) (put int_cmp key c.args.value) (put-at_key key c.args.value) bs c.in_ok-at.at c.index_mut.result.now c.put.new.self given.fork given.is_for c.index_mut.ensures.value c.put.result c.put.ensures.err)

pub tree::Node::put-returns-in-Leaf-clause-node : goal.tree::Node::put-returns-in-Leaf-clause-node
tree::Node::put-returns-in-Leaf-clause-node g t c =
    let page = subst IsNode c.in-Leaf.is c.requires.node in
    let key = c.args.key.now in
    let v = c.args.value in
    let room = subst (λ node. (node_value node).width < 16) c.in-Leaf.is c.requires.room in
    either c.put_in.result c.put_in.new.page.items _ _ IsPage c.put_in.ensures.ok c.put_in.ensures.err (page-put key v _ page room) page

pub tree::Node::put-returns-in-Leaf-clause-width : goal.tree::Node::put-returns-in-Leaf-clause-width
tree::Node::put-returns-in-Leaf-clause-width g t c =
    let es = c.in-Leaf.page.items in
    subst (λ node. (node_value node).width ≤ length c.put_in.new.page.items) (sym c.in-Leaf.is)
    (either c.put_in.result c.put_in.new.page.items _ _ (λ new. length es ≤ length new) c.put_in.ensures.ok c.put_in.ensures.err (length-put_ge c.args.key.now c.args.value es) (omega arith))

pub tree::Node::put-returns-in-Fork-clause-depth : goal.tree::Node::put-returns-in-Fork-clause-depth
tree::Node::put-returns-in-Fork-clause-depth g t c =
    let fork = c.put_in_fork.ensures.fork in
    ap suc (depth-is _ c.put_in_fork.new.branches.items fork.filled fork.each) ∙ ap (λ node. (node_value node).depth) (sym c.in-Fork.is)
