-- As many steps are made as slots are left, and as the limit of entries allows.
use Rattle.std.proofs.Common.{◌≡◌, ◌≤◌, length, ap, subst, arith}
use Rattle.tt_db.specs.Database.{Database, state_of}
use Rattle.tt_db.proofs.StepsLemmas.{steps-made}
use Rattle.tt_db.proofs.database.Db.steps_to_make.Goals as goal

pub returns-clause-made : goal.returns-clause-made
returns-clause-made c =
    let db = c.args.self.now in
    let within : (state_of db).events ≤ db.limits.events = subst (λ (d : Database). (state_of d).events ≤ d.limits.events) c.self.view_is c.self.invariant.few_events in
    let entries : (state_of db).events ≡ length db.history = subst (λ (d : Database). (state_of d).events ≡ length d.history) c.self.view_is c.self.invariant.events in
    let limit = ap (λ (d : Database). d.limits.events) c.self.view_is in
    let made = steps-made c.args.worker db c.args.most within in
    omega (arith, made, within, entries, limit, c.min.ensures, c.min-2.ensures, c.slots_left.ensures.left, c.events.ensures.count)
