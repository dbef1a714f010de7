use Rattle.std.proofs.Common.{sym, subst, ◌∙◌}
use Rattle.tt_pages.specs.MapEntries.{IsPlaceOf, IsGapFor}
use Rattle.tt_pages.proofs.MapEntriesLemmas.{without-place, without-absent}
use Rattle.tt_pages.proofs.map.page.remove_in.Goals as goal

pub returns-in-Ok : goal.returns-in-Ok
returns-in-Ok g c =
    let here = subst (λ es. IsPlaceOf c.args.key.now es c.in-Ok.at) c.deref.ensures.value c.in-Ok.ensures.present in
    c.remove.ensures.items ∙ without-place c.args.key.now c.args.page.now.items c.in-Ok.at c.requires here

pub returns-in_default : goal.returns-in_default
returns-in_default g c =
    let gap = subst (λ es. IsGapFor c.args.key.now es c.in_default.field-0) c.deref.ensures.value c.in_default.ensures.absent in
    sym (without-absent c.args.key.now c.args.page.now.items gap.absent)
