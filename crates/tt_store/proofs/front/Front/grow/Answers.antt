-- The exchange keeps the rule, and what was seen begins what is seen then.
use Rattle.std.proofs.Common.{sym, ap, subst, ◌∙◌}
use mathlib.Core.List.{IsPrefix}
use Rattle.tt_store.specs.History.{Beginning, joined}
use Rattle.tt_store.proofs.Prefixes.{joined-prefix}
use Rattle.tt_store.proofs.Growing.{grows_moves}
use Rattle.tt_store.proofs.front.Front.grow.Goals as goal

pub compare_exchange-found-requires : goal.compare_exchange-found-requires
compare_exchange-found-requires c =
    let head = c.head.invariant in
    let offer = c.plain-offer.ensures in
    let pen = c.no_pen-pen.ensures in
    let book = ap (λ (b : Beginning). b.book) c.self.view_is ∙ sym c.requires.book ∙ sym c.head.view_is in
    let longer : IsPrefix (joined c.self.inside.seen.log) c.args.db.now.history =
    subst (λ (b : Beginning). IsPrefix b.entries c.args.db.now.history) (sym c.self.view_is) c.requires.longer in (
      ap (λ w. w.tracked) head,
      book,
      pen.0 ∙ book,
      offer.0,
      rw (ap (λ w. w.key) head, pen.1, offer.1, offer.3, c.events-after.ensures.count)
          (grows_moves c.self.inside.seen.log c.args.db.now.history c.self.inside.entries (sym c.self.invariant) longer),
    )

pub returns-clause-seen : goal.returns-clause-seen
returns-clause-seen c =
    let now = c.compare_exchange-found.new.seen.log in
    subst (λ (b : Beginning). IsPrefix b.entries (joined now)) c.self.view_is (joined-prefix c.self.inside.seen.log now c.compare_exchange-found.ensures.6)
