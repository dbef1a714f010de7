-- What is appended replaces what was pending.
use Rattle.std.proofs.Common.{◌≡◌, refl, sym, subst}
use Rattle.tt_store.specs.Published.{Published, IsOf}
use Rattle.tt_store.proofs.DraftLemmas.{last_snapshot}
use Rattle.tt_store.proofs.snapshot.Publisher.publish.Goals as goal

pub publish_as-writer-requires : goal.publish_as-writer-requires
publish_as-writer-requires g c next is views holds at =
    let last : next ≡ c.args.snapshot = last_snapshot _ (λ s x. refl) _ next c.args.snapshot _ _ is c.in-Ok.ensures.pending in
    let of = subst (λ (s : Published). IsOf g.L.Naming.book g.L.Naming.tables g.L.Naming.limits s) (sym last) c.requires.of in
    (tt, c.requires.tied.holds next _ of, of)
