-- The value at the key's place is changed.
use Rattle.std.proofs.Common.{subst}
use Rattle.tt_pages.specs.MapEntries.{IsPlaceOf}
use Rattle.tt_pages.proofs.MapEntriesLemmas.{ChangesAt-place, FitsAt-place, MovesAt-place, keys-place}
use Rattle.tt_pages.proofs.map.page.change_in.Goals as goal

pub returns-in_err-apply-in-Ok-clause-keys : goal.returns-in_err-apply-in-Ok-clause-keys
returns-in_err-apply-in-Ok-clause-keys g c = keys-place c.args.page.now.items c.index_mut.result.now c.apply.new.value c.in-Ok.at c.index_mut.ensures.value

pub returns-in_ok-apply-in-Ok-clause-keys : goal.returns-in_ok-apply-in-Ok-clause-keys
returns-in_ok-apply-in-Ok-clause-keys g c = keys-place c.args.page.now.items c.index_mut.result.now c.apply.new.value c.in-Ok.at c.index_mut.ensures.value

pub returns-in_ok-apply-in-Ok-clause-ok : goal.returns-in_ok-apply-in-Ok-clause-ok
returns-in_ok-apply-in-Ok-clause-ok g c =
    let here = subst (λ es. IsPlaceOf c.args.key.now es c.in-Ok.at) c.deref.ensures.value c.in-Ok.ensures.present in
    ChangesAt-place c.args.key.now c.args.page.now.items c.index_mut.result.now c.apply.new.value c.in-Ok.at (g.M.ModifyWith.after c.args.change.now) c.requires.sorted here c.index_mut.ensures.value c.in_ok-apply-in-Ok.ensures.value

pub apply-requires : goal.apply-requires
apply-requires g c =
    let here = subst (λ es. IsPlaceOf c.args.key.now es c.in-Ok.at) c.deref.ensures.value c.in-Ok.ensures.present in
    FitsAt-place c.args.key.now c.args.page.now.items c.index_mut.result.now c.in-Ok.at (g.M.ModifyWith.fits c.args.change.now) c.args.context.now c.requires.sorted here c.index_mut.ensures.value c.requires.fits

pub returns-in_ok-apply-in-Ok-clause-moves : goal.returns-in_ok-apply-in-Ok-clause-moves
returns-in_ok-apply-in-Ok-clause-moves g c =
    let here = subst (λ es. IsPlaceOf c.args.key.now es c.in-Ok.at) c.deref.ensures.value c.in-Ok.ensures.present in
    MovesAt-place c.args.key.now c.args.page.now.items c.index_mut.result.now c.in-Ok.at (g.M.ModifyWith.moves c.args.change.now) c.args.context.now c.apply.new.context c.requires.sorted here c.index_mut.ensures.value c.in_ok-apply-in-Ok.ensures.context
