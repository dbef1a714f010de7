use Rattle.std.proofs.Common.{rules, ◌≡◌, ◌≤◌, ◌^◌, suc, length, w64, sym, ap, subst, ◌∙◌}
use mir.Val.{to_z, of_z}
use Rattle.tt_pages.specs.MapEntries.{first_key}
use Rattle.tt_pages.specs.MapTree.{IsNode, node_value, min_width}
use Rattle.tt_pages.proofs.MapBranchLemmas.{first-at, node-full}
use Rattle.tt_pages.proofs.map.tree.Tree.first_key.Goals as goal

pub returns-in-Fork-clause-first : goal.returns-in-Fork-clause-first
returns-in-Fork-clause-first g c =
    let are = subst IsNode c.in-Fork.is c.self.invariant in
    let same : to_z w64 (of_z w64 c.first.result) ≡ c.first.result = search rules in
    same ∙ c.first.ensures ∙ first-at _ c.in-Fork.branches.items c.index-in-Fork.result.now are c.index-in-Fork.ensures
    ∙ ap (λ node. first_key (node_value node).entries) (sym c.in-Fork.is) ∙ ap (λ tree. first_key tree.entries) c.self.view_is

pub returns-in-Fork-clause-full : goal.returns-in-Fork-clause-full
returns-in-Fork-clause-full g c wide = subst (λ tree. min_width ≤ tree.width → min_width ^ suc tree.depth ≤ length tree.entries) c.self.view_is (node-full c.self.inside.node c.self.invariant) wide
