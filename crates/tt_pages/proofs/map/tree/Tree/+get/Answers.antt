use Rattle.std.proofs.Common.{sym, ap, subst, ◌∙◌}
use Rattle.std.specs.Ordering.{int_cmp}
use Rattle.std.specs.FinMap.Entries.{find}
use Rattle.tt_pages.specs.MapTree.{IsNode, node_value}
use Rattle.tt_pages.specs.MapBranches.{IsBranchFor}
use Rattle.tt_pages.proofs.MapBranchLemmas.{find-branch}
use Rattle.tt_pages.proofs.map.tree.Tree.+get.Goals as goal

pub returns-in-Fork : goal.returns-in-Fork
returns-in-Fork g t c =
    let are = subst IsNode c.in-Fork.is c.self.invariant in
    let is_for = subst (λ bs. IsBranchFor c.args.key.now bs c.branch_for.result) c.deref-in-Fork.ensures.value c.branch_for.ensures.is_for in
    c.get.ensures ∙ ap (λ tree. find int_cmp c.args.key.now tree.entries) c.tree.ensures
    ∙ find-branch c.args.key.now _ c.in-Fork.branches.items c.branch_for.result c.index.result.now are.each are.sorted is_for c.index.ensures
    ∙ ap (λ node. find int_cmp c.args.key.now (node_value node).entries) (sym c.in-Fork.is) ∙ ap (λ tree. find int_cmp c.args.key.now tree.entries) c.self.view_is
