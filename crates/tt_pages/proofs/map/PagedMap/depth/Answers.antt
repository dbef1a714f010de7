use Rattle.std.proofs.Common.{arith, length, sym, ap, ◌∙◌}
use Rattle.tt_pages.specs.MapTree.{entries_of_root}
use Rattle.tt_pages.proofs.MapBranchLemmas.{shallow}
use Rattle.tt_pages.proofs.map.PagedMap.depth.Goals as goal

pub depth-requires : goal.depth-requires
depth-requires g c =
    let same = ap (λ tree. length tree.entries) c.deref.ensures ∙ ap (λ root. length (entries_of_root root)) (sym c.in-Some.is) ∙ ap length c.self.view_is in
    omega (arith, same, c.len.ensures, c.len.type_inv)

pub returns-in-Some-clause-shallow : goal.returns-in-Some-clause-shallow
returns-in-Some-clause-shallow g c =
    let same = ap (λ tree. length tree.entries) c.deref.ensures ∙ ap (λ root. length (entries_of_root root)) (sym c.in-Some.is) ∙ ap length c.self.view_is in
    shallow c.depth.result (length c.deref.result.now.entries) c.depth.ensures.deep (omega (arith, same, c.len.ensures, c.len.type_inv))
