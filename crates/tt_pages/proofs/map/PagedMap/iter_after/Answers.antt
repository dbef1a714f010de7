use Rattle.std.proofs.Common.{w64, ℤ, ap, ◌∙◌}
use Rattle.std.proofs.lemmas.Int.{to_z-of_z}
use mir.Val.{to_z, of_z}
use Rattle.tt_pages.specs.MapWalk.{entries_after}
use Rattle.tt_pages.proofs.map.PagedMap.iter_after.Goals as goal

pub returns-clause-after : goal.returns-clause-after
returns-clause-after g c =
    c.after.ensures
    ∙ ap (entries_after (to_z w64 (of_z w64 c.args.key))) c.self.view_is
    ∙ ap (λ (k : ℤ). entries_after k c.args.self.now) (to_z-of_z w64 c.args.key c.ranges.key)
