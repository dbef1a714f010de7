-- The session begins with nothing read, and its outlet is the log.
use Rattle.std.proofs.Common.{[], sym, ap, subst}
use Rattle.tt_log.specs.Log.{IsSettled}
use Rattle.tt_durable.specs.OnLog.{HandedOnLog}
use Rattle.tt_lines.proofs.EndingLemmas.{hands-map, fails-map}
use Rattle.tt_durable.proofs.OnLogLemmas.{handed-none, handed-of, stopped-of}
use Rattle.tt_durable.proofs.logged_session.serve_on_log.Goals as goal

pub returns-in-Ok-clause-ok : goal.returns-in-Ok-clause-ok
returns-in-Ok-clause-ok g c = λ told.
    let D = g.D.Device in
    let of = D in
    let outlet = c.new-outlet.result in
    let first = ap (λ l. l.device) c.new-outlet.ensures.log in
    let last = ap (λ l. l.device) (sym c.into_parts-log.ensures.log) in
    let none : D.tells outlet.log.device → HandedOnLog of outlet.log.device outlet.log.device c.args.session [] = λ tells. handed-none of outlet.log.device c.args.session tells (subst (λ l. IsSettled D.seen D.may_leave l) (sym c.new-outlet.ensures.log) (c.requires.settled told)).durable (g.met.D.Device.only_now outlet.log.device) in
    hands-map _ _ _ _ (λ reads handed.
    handed-of of _ _ _ _ c.args.session reads first last (handed (subst D.tells (sym first) told))) (c.in-Ok.ensures.ok outlet none)

pub returns-in-Err-clause-err : goal.returns-in-Err-clause-err
returns-in-Err-clause-err g c = λ told.
    let D = g.D.Device in
    let of = D in
    let outlet = c.new-outlet.result in
    let first = ap (λ l. l.device) c.new-outlet.ensures.log in
    let last = ap (λ l. l.device) (sym c.into_parts-log-in-Err.ensures.log) in
    let none : D.tells outlet.log.device → HandedOnLog of outlet.log.device outlet.log.device c.args.session [] = λ tells. handed-none of outlet.log.device c.args.session tells (subst (λ l. IsSettled D.seen D.may_leave l) (sym c.new-outlet.ensures.log) (c.requires.settled told)).durable (g.met.D.Device.only_now outlet.log.device) in
    fails-map _ _ _ _ _ _ _ (λ reads handed.
    handed-of of _ _ _ _ c.args.session reads first last (handed (subst D.tells (sym first) told)))
    (λ reads stopped.
    stopped-of _ c.into_parts-log-in-Err.result.1 of _ _ _ _ c.args.session reads (sym c.into_parts-log-in-Err.ensures.error) first last (stopped (subst D.tells (sym first) told))) (c.in-Err.ensures.fault outlet none)
