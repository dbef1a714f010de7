-- Of a beginning that isn't refused: whether the history has room for it and for all steps.
use Rattle.std.proofs.Common.{◌≡◌, ◌+◌, ◌<◌, ◌≤◌, length, None, Some, sym, ap, subst, ◌∙◌, arith}
use Rattle.tt_db.specs.declared.errors.DbError.TheVariants as errors
use Rattle.tt_db.specs.declared.event.Event.TheVariants as events
use Rattle.tt_db.specs.Database.{Database, state_of, now_in, refusal_of}
use Rattle.tt_db.proofs.TrialLemmas.{has_room, has_no_room}
use Rattle.tt_db.proofs.database.Db.trial_refusal.Goals as goal

pub returns-then-room-now : goal.returns-then-room-now
returns-then-room-now c =
    let db = c.args.self.now in
    let none : refusal_of db (events.Begin c.args.edits.now) ≡ None = sym c.begin_refusal.ensures ∙ c.in_default.is in
    let within : (state_of db).events ≤ db.limits.events = subst (λ (d : Database). (state_of d).events ≤ d.limits.events) c.self.view_is c.self.invariant.few_events in
    let entries : (state_of db).events ≡ length db.history = subst (λ (d : Database). (state_of d).events ≡ length d.history) c.self.view_is c.self.invariant.events in
    let limit = ap (λ (d : Database). d.limits.events) c.self.view_is in
    let full : db.limits.events ≤ (state_of db).events + now_in db = omega (arith, within, entries, limit, c.if-room-now.true, c.events.ensures.count, c.now.ensures) in
    ap (λ n. Some (errors.Full n)) limit ∙ sym (has_no_room db c.args.edits.now none within full)

pub returns : goal.returns
returns c =
    let db = c.args.self.now in
    let none : refusal_of db (events.Begin c.args.edits.now) ≡ None = sym c.begin_refusal.ensures ∙ c.in_default.is in
    let within : (state_of db).events ≤ db.limits.events = subst (λ (d : Database). (state_of d).events ≤ d.limits.events) c.self.view_is c.self.invariant.few_events in
    let entries : (state_of db).events ≡ length db.history = subst (λ (d : Database). (state_of d).events ≡ length d.history) c.self.view_is c.self.invariant.events in
    let limit = ap (λ (d : Database). d.limits.events) c.self.view_is in
    let room : (state_of db).events + now_in db < db.limits.events = omega (arith, within, entries, limit, c.if-room-now.false, c.events.ensures.count, c.now.ensures) in
    sym (has_room db c.args.edits.now none within room)
