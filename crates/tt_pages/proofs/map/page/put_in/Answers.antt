use Rattle.std.proofs.Common.{ap, set, subst, ◌∙◌}
use Rattle.std.specs.List.{insert}
use Rattle.tt_pages.specs.MapEntries.{IsPlaceOf, IsGapFor}
use Rattle.tt_pages.proofs.MapEntriesLemmas.{put-place, put-gap}
use Rattle.tt_pages.proofs.map.page.put_in.Goals as goal

pub returns-in-Ok-clause-ok : goal.returns-in-Ok-clause-ok
returns-in-Ok-clause-ok g c =
    ap (λ e. set c.args.page.now.items c.in-Ok.at (e.0, c.args.value)) c.index_mut.ensures.value
    ∙ put-place c.args.key.now c.args.page.now.items c.args.value c.index_mut.result.now c.in-Ok.at c.requires (subst (λ es. IsPlaceOf c.args.key.now es c.in-Ok.at) c.deref.ensures.value c.in-Ok.ensures.present)

pub returns-in_ok-insert-in-Err-clause-ok : goal.returns-in_ok-insert-in-Err-clause-ok
returns-in_ok-insert-in-Err-clause-ok g c =
    let gap = subst (λ es. IsGapFor c.args.key.now es c.in-Err.at) c.deref.ensures.value c.in-Err.ensures.absent in
    c.in_ok-insert-in-Err.ensures.items ∙ ap (λ e. insert c.args.page.now.items c.in-Err.at e) c.entry_of.ensures ∙ put-gap c.args.key.now c.args.page.now.items c.args.value c.in-Err.at gap
