-- The database with one more entry is consistent.
use Rattle.std.proofs.Common.{◌≡◌, None, sym, ap, subst, ◌∙◌}
use Rattle.tt_db.specs.Database.{Database, refusal_of, with_entry}
use Rattle.tt_db.proofs.DatabaseLemmas.{Allows-consistent, few_generations, IsConsistent-push, catalog-after}
use Rattle.tt_db.proofs.database.Db.apply_event.Goals as goal

pub carry_out-requires-clause-allowed : goal.carry_out-requires-clause-allowed
carry_out-requires-clause-allowed c =
    let db = c.self.inside.parts in
    let event = c.args.entry.event in
    Allows-consistent db.limits db.history db.generations db.generation db.closed event c.self.invariant
    (subst (λ (d : Database). refusal_of d event ≡ None) (sym c.self.view_is) c.requires)

pub carry_out-requires-clause-small : goal.carry_out-requires-clause-small
carry_out-requires-clause-small c =
    let db = c.self.inside.parts in
    let event = c.args.entry.event in
    few_generations db.limits db.history db.generations db.generation db.closed event c.self.invariant
    (subst (λ (d : Database). refusal_of d event ≡ None) (sym c.self.view_is) c.requires)

pub invariant_of-self : goal.invariant_of-self
invariant_of-self c =
    let db = c.self.inside.parts in
    let event = c.args.entry.event in
    let accepted = subst (λ (d : Database). refusal_of d event ≡ None) (sym c.self.view_is) c.requires in
    let new = c.in-Ok.ensures in
    rw (new.limits, new.history, new.transition.generations, new.transition.generation, new.closed)
    (IsConsistent-push db.limits db.history db.generations db.generation db.closed c.args.entry c.self.invariant accepted)

pub returns-in-Ok-clause-state : goal.returns-in-Ok-clause-state
returns-in-Ok-clause-state c =
    let db = c.self.inside.parts in
    let catalog = ap (λ G. G.catalog) c.in-Ok.ensures.transition.generations ∙ catalog-after db.generations c.args.entry.event in
    (λ i. record { catalog = catalog i; limits = c.in-Ok.ensures.limits i; history = c.in-Ok.ensures.history i })
    ∙ ap (λ (d : Database). with_entry d c.args.entry) c.self.view_is
