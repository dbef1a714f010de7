use Rattle.std.proofs.Common.{rules, ◌≡◌, w64, ◌∙◌}
use mir.Val.{to_z, of_z}
use Rattle.tt_pages.proofs.MapBranchLemmas.{is-branch}
use Rattle.tt_pages.proofs.map.tree.Branch.of.Goals as goal

pub returns-clause-branch : goal.returns-clause-branch
returns-clause-branch g c =
    let same : to_z w64 (of_z w64 c.first_key.result) ≡ c.first_key.result = search rules in
    is-branch c.args.node _ c.requires.node c.requires.wide (same ∙ c.first_key.ensures.first) c.in_ok-new.ensures.ok
