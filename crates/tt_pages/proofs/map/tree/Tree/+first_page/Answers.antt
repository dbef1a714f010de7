use Rattle.std.proofs.Common.{sym, ap, subst, ◌∙◌}
use Rattle.tt_pages.specs.MapTree.{IsNode, node_value}
use Rattle.tt_pages.specs.MapWalk.{IsPageOf}
use Rattle.tt_pages.proofs.MapWalkLemmas.{page-first}
use Rattle.tt_pages.proofs.map.tree.Tree.+first_page.Goals as goal

pub returns-in-Fork : goal.returns-in-Fork
returns-in-Fork g t c =
    let are = subst IsNode c.in-Fork.is c.self.invariant in
    let is = subst (λ tree. IsPageOf tree.entries c.first_page.result.now) c.tree.ensures c.first_page.ensures in
    let same = ap (λ node. (node_value node).entries) (sym c.in-Fork.is) ∙ ap (λ tree. tree.entries) c.self.view_is in
    subst (λ es. IsPageOf es c.first_page.result.now) same (page-first _ c.in-Fork.branches.items c.index.result.now c.first_page.result.now are.filled are.each c.index.ensures is)
