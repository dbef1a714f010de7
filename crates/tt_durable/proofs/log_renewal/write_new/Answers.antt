-- The opening is written, then the ground and then the slots behind it.
use Rattle.std.proofs.Common.{rules, ◌≡◌, ◌++◌, [], ap, ◌∙◌, subst, arith}
use Rattle.tt_db.specs.Limits.{usual_limits}
use Rattle.tt_db.specs.declared.limits.Limits.{Limits}
use Rattle.tt_answers.specs.LogText.{log_opening_line}
use Rattle.tt_commands.specs.Session.{Forgetting}
use Rattle.tt_session.specs.LogLines.{lines_of_database}
use Rattle.tt_durable.specs.Renewing.{IsWriting, IsReadable}
use Rattle.tt_commands.proofs.ResultLemmas.{on_ok}
use Rattle.tt_durable.proofs.RenewingLemmas.{err_is, fails-then, ok_with, keeps-none, writing-none}
use Rattle.tt_durable.proofs.LogRenewalLemmas.{lines-of, readable}
use Rattle.tt_durable.proofs.log_renewal.write_new.Goals as goal

pub returns-in_err-push_ground-clause-err : goal.returns-in_err-push_ground-clause-err
returns-in_err-push_ground-clause-err g c =
    let D = g.D.Device in
    let of = D in
    let log = c.args.log.now in
    err_is _ c.from_residual-in_err-push_ground.result c.in_err-push_ground.field-0.0 c.from_residual-in_err-push_ground.ensures.1
    (λ told.
    let begun =
    writing-none of log c.new-lines.result c.new-lines.ensures (keeps-none of log told (c.requires.settled told) (g.met.D.Device.only_now log.device)) (c.requires.making told)
    (c.requires.empty told) in
    c.in_err-push_ground.ensures.err (c.push_line.ensures.tells.0 told) log _ (c.in_ok-push_line.ensures.ok told log [] begun))

pub returns-in_err-push_slots-clause-err : goal.returns-in_err-push_slots-clause-err
returns-in_err-push_slots-clause-err g c =
    let D = g.D.Device in
    let of = D in
    let log = c.args.log.now in
    err_is _ c.from_residual-in_err-push_slots.result c.in_err-push_slots.field-0.0 c.from_residual-in_err-push_slots.ensures.1
    (λ told.
    let begun =
    writing-none of log c.new-lines.result c.new-lines.ensures (keeps-none of log told (c.requires.settled told) (g.met.D.Device.only_now log.device)) (c.requires.making told)
    (c.requires.empty told) in
    let told_1 = c.push_line.ensures.tells.0 told in
    c.in_err-push_slots.ensures.err (c.push_ground.ensures.tells.0 told_1) log _
    (c.in_ok-push_ground.ensures.ok told_1 log _ (c.in_ok-push_line.ensures.ok told log [] begun)))

pub returns-clause-ok : goal.returns-clause-ok
returns-clause-ok g c =
    let D = g.D.Device in
    let of = D in
    let log = c.args.log.now in
    let f = c.forgetting.inside in
    let terms = c.args.terms in
    let forgetting : Forgetting = record { db = f.db; time = f.time; ground_slots = f.ground_slots; numbering = f.numbering; stamps = f.stamps } in
    let line_is : c.deref.result.now ≡ log_opening_line f.db.catalog f.db.limits.keep terms.most_records f.numbering =
    c.deref.ensures.value ∙ c.in_ok-push_log_opening.ensures
    ∙ (λ i. c.new-text.ensures.items i ++ log_opening_line (c.catalog.ensures i) (c.limits-limits.ensures.value i).keep terms.most_records f.numbering) in
    let all = lines-of forgetting terms c.ground_slots-ground_slots.result c.deref.result.now line_is c.ground_slots-ground_slots.ensures in
    on_ok c.write_pending.result
    (λ wrote told.
    let begun =
    writing-none of log c.new-lines.result c.new-lines.ensures (keeps-none of log told (c.requires.settled told) (g.met.D.Device.only_now log.device)) (c.requires.making told)
    (c.requires.empty told) in
    let told_1 = c.push_line.ensures.tells.0 told in
    let told_2 = c.push_ground.ensures.tells.0 told_1 in
    let told_3 = c.push_slots.ensures.tells.0 told_2 in
    let third = c.in_ok-push_slots.ensures.ok told_2 log _ (c.in_ok-push_ground.ensures.ok told_1 log _ (c.in_ok-push_line.ensures.ok told log [] begun)) in
    subst (λ ls. IsWriting of log c.write_pending.new.log [] ls) (all ∙ ap (λ (f : Forgetting). lines_of_database f.db f.numbering f.stamps terms) c.forgetting.view_is)
    (wrote told_3 log _ third))
    c.write_pending.ensures.ok

pub returns-clause-err : goal.returns-clause-err
returns-clause-err g c =
    let D = g.D.Device in
    let of = D in
    let log = c.args.log.now in
    fails-then _ _ c.write_pending.result c.write_pending.ensures.err
    (λ fault failed told.
    let begun =
    writing-none of log c.new-lines.result c.new-lines.ensures (keeps-none of log told (c.requires.settled told) (g.met.D.Device.only_now log.device)) (c.requires.making told)
    (c.requires.empty told) in
    let told_1 = c.push_line.ensures.tells.0 told in
    let told_2 = c.push_ground.ensures.tells.0 told_1 in
    failed (c.push_slots.ensures.tells.0 told_2) log _
    (c.in_ok-push_slots.ensures.ok told_2 log _ (c.in_ok-push_ground.ensures.ok told_1 log _ (c.in_ok-push_line.ensures.ok told log [] begun))))

pub returns-clause-readable : goal.returns-clause-readable
returns-clause-readable g c =
    let f = c.forgetting.inside in
    let p = c.forgetting.invariant in
    let terms = c.args.terms in
    let forgetting : Forgetting = record { db = f.db; time = f.time; ground_slots = f.ground_slots; numbering = f.numbering; stamps = f.stamps } in
    let usual : record usual_limits { keep = f.db.limits.keep } ≡ f.db.limits =
    subst (λ (l : Limits). record usual_limits { keep = l.keep } ≡ l) c.limits-limits.ensures.value (search rules) in
    ok_with c.write_pending.result
    (subst (λ (f : Forgetting). IsReadable f terms) c.forgetting.view_is
    (readable forgetting terms c.ground_slots-ground_slots.result p.0 p.2 p.3 usual c.ground_slots-ground_slots.ensures
    (omega (arith, c.if-ground_slots-from.false, c.from.ensures)) (omega (arith, c.if-ground_slots-slots.false, c.events-slots.ensures.count))
    (omega (arith, c.if-len-slots.false, c.len.ensures.value, c.if-ground_slots-slots.false, c.events-slots.ensures.count)) c.len.ensures.sound
    c.in_ok-push_ground.ensures.printable c.in_ok-push_slots.ensures.printable))
