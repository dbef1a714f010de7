-- The places of what it adds are among those of its entries, and its share counts them.
use Rattle.std.proofs.Common.{◌≡◌, ℕ, ◌+◌, ◌-◌, List, ◌++◌, length, sym, ap, subst, ◌∙◌, arith, length-append}
use Rattle.tt_db.specs.Database.{Database}
use Rattle.tt_store.specs.History.{Beginning, places_of}
use Rattle.tt_store.specs.Published.{Published}
use Rattle.tt_store.specs.Calls.{numbers_from}
use Rattle.tt_store.specs.Drafts.{IsMadeBy}
use Rattle.tt_store.specs.Workers.{WorkerState, IsAmong}
use Rattle.tt_store.proofs.DraftLemmas.{among_added, adds_places, length-numbers_from}
use Rattle.tt_store.proofs.worker.Worker.add.Goals as goal

pub invariant_of-self-2 : goal.invariant_of-self-2
invariant_of-self-2 g c =
    let worker = c.self.inside in
    let kept = c.self.invariant.2 in
    let front = worker.seen.db.history in
    let history = c.args.db.history in
    let made = subst (λ (w : WorkerState). IsMadeBy w history) (sym c.self.view_is) c.requires.made in
    let events : c.events-events.result ≡ length history = c.events-events.ensures.count ∙ ap (λ (d : Database). length d.history) c.get.ensures in
    let items : c.push_places.new.places.items ≡ worker.own.items ++ numbers_from (length front + 1) (length history - length front) =
    c.push_places.ensures ∙ (λ i. c.reserve.ensures.items i ++ numbers_from (c.len-seen.ensures i + 1) (events i - c.len-seen.ensures i)) in (
      c.self.invariant.0,
      c.self.invariant.1,
      record {
        of = record {
          same_book = ap (λ (s : Published). s.book) c.new.ensures ∙ c.grow.ensures.book ∙ ap (λ (b : Beginning). b.book) c.share-front.ensures ∙ c.front.ensures.book ∙ kept.of.same_book;
          same_tables = ap (λ (s : Published). s.db.catalog) c.new.ensures ∙ c.requires.tables;
          same_limits = ap (λ (s : Published). s.db.limits) c.new.ensures ∙ c.requires.limits;
        };
        among =
            subst (λ (s : Published). IsAmong c.push_places.new.places.items (places_of worker.number s.db.history)) (sym c.new.ensures)
            (subst (λ (xs : List ℕ). IsAmong xs (places_of worker.number history)) (sym items)
            (among_added worker.own.items worker.number front history made.0 made.1 kept.among));
        one_part = c.add.ensures.parts ∙ kept.one_part;
        counts = omega (
          arith,
          c.add.ensures.amount,
          kept.counts,
          ap length items,
          length-append worker.own.items (numbers_from (length front + 1) (length history - length front)),
          length-numbers_from (length front + 1) (length history - length front),
          events,
          c.len-seen.ensures,
        );
      },
    )

pub returns-clause-added : goal.returns-clause-added
returns-clause-added g c done =
    let worker = c.self.inside in
    let history = c.args.db.history in
    let old = c.args.self.now in
    let new : WorkerState = record { number = worker.number; seen = c.new.result.db.history; own = c.push_places.new.places.items } in
    let events : c.events-events.result ≡ length history = c.events-events.ensures.count ∙ ap (λ (d : Database). length d.history) c.get.ensures in
    let seen : c.len-seen.result ≡ length old.seen = c.len-seen.ensures ∙ ap (λ (w : WorkerState). length w.seen) c.self.view_is in
    let own : c.push_places.new.places.items ≡ old.own ++ numbers_from (length old.seen + 1) (length history - length old.seen) =
    c.push_places.ensures ∙ ap (λ items. items ++ numbers_from (c.len-seen.result + 1) (c.events-events.result - c.len-seen.result)) c.reserve.ensures.items
    ∙ (λ i. (c.self.view_is i).own ++ numbers_from (seen i + 1) (events i - seen i)) in
    let among = subst (λ (w : WorkerState). IsAmong w.own (places_of w.number w.seen)) c.self.view_is c.self.invariant.2.among in (
      adds_places old new history c.requires.made among (ap (λ (w : WorkerState). w.number) c.self.view_is) (ap (λ (s : Published). s.db.history) c.new.ensures) own,
      omega (arith, c.add.ensures.total, events, seen),
    )
