-- The database with these steps is consistent.
use Rattle.std.proofs.Common.{◌≡◌, ◌+◌, ◌≤◌, ◌++◌, replicate, sym, ap, subst, ◌∙◌}
use Rattle.tt_generations.specs.TwoGenerations.{done_of}
use Rattle.tt_db.specs.declared.database.Parts.{Parts}
use Rattle.tt_db.specs.State.{slots_left}
use Rattle.tt_db.specs.Database.{Database, state_of}
use Rattle.tt_db.specs.Steps.{step_by, with_steps_by, last_step, last_outcome}
use Rattle.tt_db.proofs.StepsLemmas.{steps-entries, has_room, IsConsistent-steps, last_outcome-is}
use Rattle.tt_db.proofs.database.Db.make_steps.Goals as goal

pub invariant_of-self : goal.invariant_of-self
invariant_of-self c =
    let p = c.self.inside.parts in
    let new = c.in-Ok.ensures in
    let left = subst (λ (d : Database). c.args.count ≤ slots_left (state_of d)) (sym c.self.view_is) c.requires.left in
    let room = subst (λ (d : Database). (state_of d).events + c.args.count ≤ d.limits.events) (sym c.self.view_is) c.requires.room in
    let has = has_room p.limits p.history p.generations p.generation p.closed c.args.count c.self.invariant left room in
    let limits = ap (λ (q : Parts). q.limits) new.others in
    let generation = ap (λ (q : Parts). q.generation) new.others in
    let closed = ap (λ (q : Parts). q.closed) new.others in
    rw (limits, new.history, new.generations, generation, closed)
    (IsConsistent-steps p.limits p.history p.generations p.generation p.closed c.args.worker c.args.count c.self.invariant has)

pub returns-in-Ok-clause-state : goal.returns-in-Ok-clause-state
returns-in-Ok-clause-state c =
    let p = c.self.inside.parts in
    let new = c.in-Ok.ensures in
    let db : Database = record { catalog = p.generations.catalog; limits = p.limits; history = p.history } in
    let limits = ap (λ (q : Parts). q.limits) new.others in
    (λ i. record { catalog = new.catalog i; limits = limits i; history = new.history i })
    ∙ sym (steps-entries c.args.worker db c.args.count)
    ∙ ap (λ (d : Database). with_steps_by c.args.worker d c.args.count) c.self.view_is

pub returns-in-Ok-clause-last : goal.returns-in-Ok-clause-last
returns-in-Ok-clause-last c =
    let p = c.self.inside.parts in
    let new = c.in-Ok.ensures in
    let left = subst (λ (d : Database). c.args.count ≤ slots_left (state_of d)) (sym c.self.view_is) c.requires.left in
    let room = subst (λ (d : Database). (state_of d).events + c.args.count ≤ d.limits.events) (sym c.self.view_is) c.requires.room in
    let has = has_room p.limits p.history p.generations p.generation p.closed c.args.count c.self.invariant left room in
    let limits = ap (λ (q : Parts). q.limits) new.others in
    let next : Database = record { catalog = p.generations.catalog; limits = p.limits; history = p.history ++ replicate c.args.count (step_by c.args.worker) } in
    let is : record { catalog = c.make_steps.new.self.generations.catalog; limits = c.make_steps.new.self.limits; history = c.make_steps.new.self.history } ≡ next = λ i. record { catalog = new.catalog i; limits = limits i; history = new.history i } in
    c.last_step.ensures
    ∙ ap (λ (d : Database). last_step c.args.count (done_of (state_of d).phase) c.in-Ok.rerun) is
    ∙ last_outcome-is p.limits p.history p.generations p.generation p.closed c.args.worker c.args.count c.in-Ok.rerun c.self.invariant has new.rerun
    ∙ ap (λ (d : Database). last_outcome c.args.worker d c.args.count) c.self.view_is
