use Rattle.std.proofs.Common.{◌≡◌, ◌++◌, [], ◌∷◌, subst, sym, ap, ◌∙◌}
use Rattle.tt_pages.specs.MapTree.{AreBranches}
use Rattle.tt_pages.proofs.MapBranchLemmas.{branches-are}
use Rattle.tt_pages.proofs.MapHalvesLemmas.{raised-are}
use Rattle.tt_pages.proofs.map.tree.Tree.raised.Goals as goal

pub invariant_of-result : goal.invariant_of-result
invariant_of-result g c =
    let halves = c.in_ok-low.field-0 in
    let is : c.push-2.new.self.items ≡ halves.low ∷ halves.high ∷ [] =
    c.in_ok-push-2.ensures.items ∙ ap (λ bs. bs ++ halves.high ∷ []) (c.in_ok-push.ensures.items ∙ ap (λ bs. bs ++ halves.low ∷ []) c.in_ok-branches.ensures.items) in
    branches-are c.args.self.now.depth c.push-2.new.self.items (subst (AreBranches c.args.self.now.depth) (sym is) (raised-are c.args.self.now halves.low halves.high c.in_ok-low.ensures.sorted c.in_ok-low.ensures.halves))
