-- What is written beside the log is put in its place.
use Rattle.std.proofs.Common.{List, ℕ, inr, subst, arith}
use Rattle.tt_session.specs.LogLines.{lines_of_database}
use Rattle.tt_durable.specs.Renewing.{KeepsLog, TakesLines, FailsToRenew}
use Rattle.tt_commands.proofs.ResultLemmas.{on_ok}
use Rattle.tt_durable.proofs.RenewingLemmas.{keeps-trans, takes-behind, fails-behind, fails-then, failed-by, all-written}
use Rattle.tt_durable.proofs.log_renewal.make_anew.Goals as goal

pub take_new-requires-clause-lines : goal.take_new-requires-clause-lines
take_new-requires-clause-lines g c = λ told.
    let D = g.D.Device in
    let of = D in
    let f = c.args.forgetting.now in
    (all-written of c.begin_new.new.self c.write_new.new.log (lines_of_database f.db f.numbering f.stamps c.args.terms)
    (c.in-Ok-write_new.ensures.ok (c.write_new.ensures.tells.1 told))).1

pub returns-in-Ok-write_new-clause-ok : goal.returns-in-Ok-write_new-clause-ok
returns-in-Ok-write_new-clause-ok g c =
    let D = g.D.Device in
    let of = D in
    let f = c.args.forgetting.now in
    let old = c.args.log.now in
    let begun = c.begin_new.new.self in
    let mid = c.write_new.new.log in
    let after = c.take_new.new.log in
    let b = c.begin_new.ensures in
    let lines : List (List ℕ) = lines_of_database f.db f.numbering f.stamps c.args.terms in
    on_ok c.take_new.result
    (λ took told.
    let told_1 = b.tells.0 told in
    let wrote = c.in-Ok-write_new.ensures.ok told_1 in
    let first : KeepsLog of old begun = record {
      tells = told_1;
      settled = b.settled told;
      seen = b.seen told;
      shown = b.shown told;
      any_moment = b.any_moment told;
      failures = b.failures told;
    } in
    takes-behind of old mid after lines (keeps-trans of old begun mid first wrote.keeps)
    (subst (λ ls. TakesLines of mid after ls) (all-written of begun mid lines wrote).0 (took (c.write_new.ensures.tells.0 told_1))))
    c.take_new.ensures.ok

pub returns-in-Ok-write_new-clause-err : goal.returns-in-Ok-write_new-clause-err
returns-in-Ok-write_new-clause-err g c =
    let D = g.D.Device in
    let of = D in
    let f = c.args.forgetting.now in
    let old = c.args.log.now in
    let begun = c.begin_new.new.self in
    let mid = c.write_new.new.log in
    let after = c.take_new.new.log in
    let b = c.begin_new.ensures in
    let lines : List (List ℕ) = lines_of_database f.db f.numbering f.stamps c.args.terms in
    fails-then _ _ c.take_new.result c.take_new.ensures.err
    (λ fault failed told.
    let told_1 = b.tells.0 told in
    let wrote = c.in-Ok-write_new.ensures.ok told_1 in
    let first : KeepsLog of old begun = record {
      tells = told_1;
      settled = b.settled told;
      seen = b.seen told;
      shown = b.shown told;
      any_moment = b.any_moment told;
      failures = b.failures told;
    } in
    fails-behind of fault old mid after lines (keeps-trans of old begun mid first wrote.keeps)
    (subst (λ ls. FailsToRenew fault of mid after ls) (all-written of begun mid lines wrote).0 (failed (c.write_new.ensures.tells.0 told_1))))

-- where the new file is
pub returns-in-Ok-write_new-clause-no_new : goal.returns-in-Ok-write_new-clause-no_new
returns-in-Ok-write_new-clause-no_new g c =
    on_ok c.take_new.result (λ none told now. none (c.write_new.ensures.tells.0 (c.begin_new.ensures.tells.0 told)) now) c.take_new.ensures.no_new

pub returns-in-Ok-write_new-clause-no_new_err : goal.returns-in-Ok-write_new-clause-no_new_err
returns-in-Ok-write_new-clause-no_new_err g c =
    fails-then _ _ c.take_new.result c.take_new.ensures.no_new_err
    (λ fault left told now.
    let told_1 = c.begin_new.ensures.tells.0 told in
    inr (omega (arith, c.begin_new.ensures.failures told, (c.in-Ok-write_new.ensures.ok told_1).keeps.failures, left (c.write_new.ensures.tells.0 told_1) now)))

pub returns-in-Err-Memory-clause-no_new_err : goal.returns-in-Err-Memory-clause-no_new_err
returns-in-Err-Memory-clause-no_new_err g c = λ told now.
    let D = g.D.Device in
    let told_1 = c.begin_new.ensures.tells.0 told in
    let failed = failed-by D c.in-Err-Memory.field-0 c.begin_new.new.self c.write_new.new.log (c.in-Err-Memory.ensures.err told_1) in
    inr (omega (arith, c.begin_new.ensures.failures told, failed, c.remove_new.ensures.no_new (c.write_new.ensures.tells.0 told_1) now))
