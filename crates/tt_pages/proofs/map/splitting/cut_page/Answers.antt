use Rattle.std.proofs.Common.{arith, subst, sym, ◌∙◌, length-drop, ◌≡◌, drop}
use Rattle.std.proofs.lemmas.List.{take_all}
use Rattle.tt_pages.specs.MapTree.{IsPage}
use Rattle.tt_pages.proofs.MapHalvesLemmas.{page-front, page-rest}
use Rattle.tt_pages.proofs.map.splitting.cut_page.Goals as goal

pub of-requires-clause-node : goal.of-requires-clause-node
of-requires-clause-node g c = subst IsPage (sym c.in_ok-low.ensures) (page-front c.args.entries.now c.args.at c.requires.sorted c.requires.cut)

pub of-requires-2-clause-node : goal.of-requires-2-clause-node
of-requires-2-clause-node g c =
    let rest = drop c.args.at c.args.entries.now in
    let is : c.in_ok-high.high.items ≡ rest = c.in_ok-high.ensures ∙ take_all _ rest (omega (arith, length-drop c.args.at c.args.entries.now)) in
    subst IsPage (sym is) (page-rest c.args.entries.now c.args.at c.requires.sorted c.requires.cut)
