-- The shares add up to the length of the history, so the workers made all of it.
use Rattle.std.proofs.Common.{◌≡◌, List, length, vec_len, All, ap, sym, subst, ◌∙◌, arith}
use Rattle.tt_db.specs.declared.event.Entry.{Entry}
use Rattle.tt_db.specs.Database.{Database}
use Rattle.tt_store.specs.Closing.{IsNumbered, IsPartOf, IsOfWorker, with_places, places_by_worker, places_made}
use Rattle.tt_store.proofs.ClosingLemmas.{all_numbered, made_whole, as_many_lists}
use Rattle.tt_store.proofs.closing.closed_of.Goals as goal

pub take_in-requires : goal.take_in-requires
take_in-requires g c =
    let count = g.L.Ledger.parts in
    let same : count ≡ vec_len c.args.places = omega (arith, as_many_lists c.args.places.items count c.requires.room, c.args.places.ok.0) in
    subst (λ n. All (IsNumbered n) c.args.workers.items) same (all_numbered count c.args.workers.items c.requires.each_once)

pub returns : goal.returns
returns g c =
    let count = g.L.Ledger.parts in
    let workers = c.args.workers.items in
    let parts : c.take_in.new.whole.parts ≡ count = omega (arith, c.take_in.ensures.parts, c.into_parts-latest.ensures.parts, c.requires.each_once.as_many) in
    let all : places_made workers ≡ length c.args.core =
    omega (arith, c.take_in.ensures.amount, c.into_parts-latest.ensures.amount, c.into_parts-latest.ensures.total, c.audit.ensures.whole parts) in
    let made = made_whole count c.args.core workers c.requires.each_once c.requires.behind all in
    let history : c.args.core ≡ c.into_db.result.history = sym (ap (λ (db : Database). db.history) c.into_db.ensures ∙ c.into_parts-latest.ensures.history) in
    record {
      each_once = c.requires.each_once;
      same_tables = ap (λ (db : Database). db.catalog) c.into_db.ensures ∙ c.into_parts-latest.ensures.of.same_tables;
      same_limits = ap (λ (db : Database). db.limits) c.into_db.ensures ∙ c.into_parts-latest.ensures.of.same_limits;
      parts = subst (λ (J : List Entry). All (IsPartOf J) workers) history made.parts;
      places =
          c.take_in.ensures.places
          ∙ ap (λ lists. with_places lists workers) c.requires.room
          ∙ made.places
          ∙ ap (places_by_worker count) history;
      entries = subst (λ (J : List Entry). All (IsOfWorker count) J) history made.entries;
    }
