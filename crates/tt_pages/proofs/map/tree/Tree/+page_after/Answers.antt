use Rattle.std.proofs.Common.{arith, sym, ap, subst, ◌∙◌}
use Rattle.tt_pages.specs.MapTree.{IsNode, node_value}
use Rattle.tt_pages.specs.MapBranches.{IsBranchFor}
use Rattle.tt_pages.specs.MapWalk.{IsPageOf, entries_after}
use Rattle.tt_pages.proofs.MapWalkLemmas.{is_empty-true, is_empty-false, page-here, page-next}
use Rattle.tt_pages.proofs.map.tree.Tree.+page_after.Goals as goal
use Rattle.tt_pages.proofs.map.tree.Tree.+page_after.Goals.{else-is_empty-via-then-is_empty+else-at-len, else-is_empty-via-else-is_empty}

pub returns-then-at-len : goal.returns-then-at-len
returns-then-at-len g t c =
    let bs = c.in-Fork.branches.items in
    let key = c.args.key.now in
    let are = subst IsNode c.in-Fork.is c.self.invariant in
    let is_for = subst (λ bs. IsBranchFor key bs c.branch_for-at.result) c.deref-in-Fork.ensures.value c.branch_for-at.ensures.is_for in
    let page = subst (λ tree. IsPageOf (entries_after key tree.entries) c.page_after-page.result.now) c.tree.ensures c.page_after-page.ensures in
    let next = subst (λ tree. IsPageOf tree.entries c.first_page.result.now) c.tree-then-at-len.ensures c.first_page.ensures in
    let same = ap (λ node. (node_value node).entries) (sym c.in-Fork.is) ∙ ap (λ tree. tree.entries) c.self.view_is in
    subst (λ es. IsPageOf (entries_after key es) c.first_page.result.now) same
    (page-next _ key bs c.branch_for-at.result c.index.result.now are.each are.sorted is_for c.index.ensures c.page_after-page.result.now page c.index-then-at-len.result.now c.first_page.result.now (is_empty-true c.page_after-page.result.now (sym c.is_empty.ensures ∙ c.if-is_empty.true)) (omega (arith, c.if-at-len.true, c.len.ensures)) c.index-then-at-len.ensures next)

pub returns-else-is_empty : goal.returns-else-is_empty
returns-else-is_empty g t c =
    let bs = c.in-Fork.branches.items in
    let key = c.args.key.now in
    let are = subst IsNode c.in-Fork.is c.self.invariant in
    let is_for = subst (λ bs. IsBranchFor key bs c.branch_for-at.result) c.deref-in-Fork.ensures.value c.branch_for-at.ensures.is_for in
    let page = subst (λ tree. IsPageOf (entries_after key tree.entries) c.page_after-page.result.now) c.tree.ensures c.page_after-page.ensures in
    let same = ap (λ node. (node_value node).entries) (sym c.in-Fork.is) ∙ ap (λ tree. tree.entries) c.self.view_is in
    subst (λ es. IsPageOf (entries_after key es) c.page_after-page.result.now) same
    (page-here _ key bs c.branch_for-at.result c.index.result.now are.each are.sorted is_for c.index.ensures c.page_after-page.result.now page (λ empty. elim c.else-is_empty.branch [
      | else-is_empty-via-then-is_empty+else-at-len w ↦ omega (arith, w.if-at-len.false, w.len.ensures)
      | else-is_empty-via-else-is_empty w ↦ absurd (is_empty-false c.page_after-page.result.now (sym c.is_empty.ensures ∙ w.if-is_empty.false) empty)
    ]))
