use Rattle.std.proofs.Common.{arith, subst, sym, refl, ◌∙◌, length-drop, ◌≡◌, drop}
use Rattle.std.proofs.lemmas.List.{take_all}
use Rattle.tt_pages.specs.MapTree.{AreBranches, branch_depth}
use Rattle.tt_pages.proofs.MapBranchLemmas.{branches-are}
use Rattle.tt_pages.proofs.MapHalvesLemmas.{branches-front, branches-rest, parts-of_fork}
use Rattle.tt_pages.proofs.map.splitting.cut_fork.Goals as goal

pub of-requires-clause-node : goal.of-requires-clause-node
of-requires-clause-node g c =
    let depth = branch_depth c.args.branches.now in
    branches-are depth c.in_ok-low.low.items (subst (AreBranches depth) (sym c.in_ok-low.ensures) (branches-front depth c.args.branches.now c.args.at c.requires.each c.requires.sorted c.requires.cut))

pub of-requires-2-clause-node : goal.of-requires-2-clause-node
of-requires-2-clause-node g c =
    let depth = branch_depth c.args.branches.now in
    let rest = drop c.args.at c.args.branches.now in
    let is : c.in_ok-high.high.items ≡ rest = c.in_ok-high.ensures ∙ take_all _ rest (omega (arith, length-drop c.args.at c.args.branches.now)) in
    branches-are depth c.in_ok-high.high.items (subst (AreBranches depth) (sym is) (branches-rest depth c.args.branches.now c.args.at c.requires.each c.requires.sorted c.requires.cut))

pub returns : goal.returns
returns g c =
    let rest = drop c.args.at c.args.branches.now in
    let is : c.in_ok-high.high.items ≡ rest = c.in_ok-high.ensures ∙ take_all _ rest (omega (arith, length-drop c.args.at c.args.branches.now)) in
    parts-of_fork (branch_depth c.args.branches.now) c.args.branches.now c.args.at c.requires.each c.requires.sorted c.requires.cut c.in_ok-low.low.items c.in_ok-high.high.items _ refl c.in_ok-low.ensures is c.in_ok-of.ensures.tree c.in_ok-of-2.ensures.tree c.in_ok-of.ensures.branch c.in_ok-of-2.ensures.branch
