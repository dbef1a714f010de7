use Rattle.std.proofs.Common.{arith, ◌^◌, ◌<◌, length, sym, ap, subst, ◌∙◌}
use Rattle.tt_pages.specs.MapTree.{IsNode, node_value}
use Rattle.tt_pages.proofs.MapBranchLemmas.{first-less, shallow}
use Rattle.tt_pages.proofs.map.tree.Tree.+depth.Goals as goal

pub overflow_add-result : goal.overflow_add-result
overflow_add-result g t c =
    let are = subst IsNode c.in-Fork.is c.self.invariant in
    let bs = c.in-Fork.branches.items in
    let less = first-less _ bs c.index.result.now are c.index.ensures in
    let whole = ap (λ node. length (node_value node).entries) (sym c.in-Fork.is) ∙ ap (λ tree. length tree.entries) c.self.view_is in
    let fits : length c.tree.result.now.entries < 2 ^ 64 = omega (arith, less, whole, ap (λ tree. length tree.entries) c.tree.ensures, c.requires) in
    omega (arith, shallow c.depth.result (length c.tree.result.now.entries) c.depth.ensures.deep fits)
