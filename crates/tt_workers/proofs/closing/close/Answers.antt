-- the store is closed
use Rattle.std.proofs.Common.{All, sym, ap, subst, ◌∙◌}
use Rattle.tt_store.specs.History.{places_of}
use Rattle.tt_store.specs.Workers.{IsAmong}
use Rattle.tt_store.specs.Closing.{IsPartOf, IsOfWorker}
use Rattle.tt_workers.proofs.closing.close.Goals as goal

pub returns-in-Ok-clause-catalog : goal.returns-in-Ok-clause-catalog
returns-in-Ok-clause-catalog g c = ap (λ db. db.catalog) c.last_db.ensures ∙ c.in-Ok.ensures.closed.same_tables

pub returns-in-Ok-clause-limits : goal.returns-in-Ok-clause-limits
returns-in-Ok-clause-limits g c = ap (λ db. db.limits) c.last_db.ensures ∙ c.in-Ok.ensures.closed.same_limits

pub returns-in-Ok-clause-made : goal.returns-in-Ok-clause-made
returns-in-Ok-clause-made g c = subst (λ workers. All (λ w. IsAmong w.own (places_of w.number w.seen)) workers) c.deref.ensures.value c.see_made.ensures

pub returns-in-Ok-clause-parts : goal.returns-in-Ok-clause-parts
returns-in-Ok-clause-parts g c = subst (λ db. All (IsPartOf db.history) c.args.workers.items) (sym c.last_db.ensures) c.in-Ok.ensures.closed.parts

pub returns-in-Ok-clause-entries : goal.returns-in-Ok-clause-entries
returns-in-Ok-clause-entries g c = subst (λ db. All (IsOfWorker g.L.Ledger.parts) db.history) (sym c.last_db.ensures) c.in-Ok.ensures.closed.entries
