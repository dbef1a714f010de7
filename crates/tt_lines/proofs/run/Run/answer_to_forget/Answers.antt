-- The request is refused or nothing is left to forget, or the log is made anew behind all answers that are kept, or there is no memory.
use Rattle.std.proofs.Common.{refl, subst}
use Rattle.tt_session.specs.ForgetTurns.{Prepares}
use Rattle.tt_commands.specs.Session.{counted}
use Rattle.tt_commands.proofs.ResultLemmas.{on_ok, on_err, err_of}
use Rattle.tt_lines.proofs.RunningLemmas.{one-stays, forget-ready, answers-same, stops-same, stops-first}
use Rattle.tt_lines.proofs.run.Run.answer_to_forget.Goals as goal

pub returns-in-Ok-None-clause-ok : goal.returns-in-Ok-None-clause-ok
returns-in-Ok-None-clause-ok g c =
    let old = c.args.self.now in
    let done = c.in-Ok-None.ensures in
    let out = c.prepare_to_forget.new.out in
    one-stays _ _ _ old (record old { session = c.prepare_to_forget.new.self; out = out }) c.args.request c.requires.asks
    (λ session is. subst (Prepares (counted session) c.args.request old.out.items out.items) c.in-Ok-None.field-0-is (done.prepared session is))
    done.session refl

pub returns-in_err-hand_over-in-Ok-Some-clause-err : goal.returns-in_err-hand_over-in-Ok-Some-clause-err
returns-in_err-hand_over-in-Ok-Some-clause-err g c =
    let O = g.O.Outlet in
    let old = c.args.self.now in
    let out = c.prepare_to_forget.new.out in
    on_err c.from_residual.result
    (stops-first O.handed O.stopped O.has_log c.args.outlet.now c.hand_over.new.outlet old (record old { session = c.prepare_to_forget.new.self; out = out })
    (λ bytes has.
    let a = c.requires.asks bytes has in
    (subst (Prepares (counted a.opened) c.args.request old.out.items out.items) c.in-Ok-Some.field-0-is (c.in-Ok-Some.ensures.prepared a.opened a.session_is)).0)
    refl c.in_err-hand_over-in-Ok-Some.ensures.err)

pub returns-in_ok-hand_over-in-Ok-Some-clause-ok : goal.returns-in_ok-hand_over-in-Ok-Some-clause-ok
returns-in_ok-hand_over-in-Ok-Some-clause-ok g c =
    let O = g.O.Outlet in
    let old = c.args.self.now in
    let out = c.prepare_to_forget.new.out in
    let over = c.in_ok-hand_over-in-Ok-Some.ensures in
    on_ok c.make_log_anew.result (λ done first start reads bytes has p session_is. done first start reads bytes
    (forget-ready O.handed O.has_log c.args.outlet.now c.hand_over.new.outlet old (record old { session = c.prepare_to_forget.new.self; out = out }) c.hand_over.new.self c.args.request c.in-Ok-Some.ready c.requires.asks
    (λ session is. subst (Prepares (counted session) c.args.request old.out.items out.items) c.in-Ok-Some.field-0-is (c.in-Ok-Some.ensures.prepared session is))
    c.in-Ok-Some.ensures.session refl over.ok over.session over.out over.lines first start reads bytes has p session_is)) c.make_log_anew.ensures.ok

pub returns-in_ok-hand_over-in-Ok-Some-clause-err : goal.returns-in_ok-hand_over-in-Ok-Some-clause-err
returns-in_ok-hand_over-in-Ok-Some-clause-err g c =
    let O = g.O.Outlet in
    let old = c.args.self.now in
    let out = c.prepare_to_forget.new.out in
    let over = c.in_ok-hand_over-in-Ok-Some.ensures in
    err_of c.make_log_anew.result (λ stops first start reads bytes has p session_is. stops first start reads bytes
    (forget-ready O.handed O.has_log c.args.outlet.now c.hand_over.new.outlet old (record old { session = c.prepare_to_forget.new.self; out = out }) c.hand_over.new.self c.args.request c.in-Ok-Some.ready c.requires.asks
    (λ session is. subst (Prepares (counted session) c.args.request old.out.items out.items) c.in-Ok-Some.field-0-is (c.in-Ok-Some.ensures.prepared session is))
    c.in-Ok-Some.ensures.session refl over.ok over.session over.out over.lines first start reads bytes has p session_is)) c.make_log_anew.ensures.err

pub answer_without_memory-requires-clause-some : goal.answer_without_memory-requires-clause-some
answer_without_memory-requires-clause-some g c = λ bytes has. let a = c.requires.asks bytes has in (a.short, a.told, tt)

pub returns-in-Err-clause-ok : goal.returns-in-Err-clause-ok
returns-in-Err-clause-ok g c =
    let O = g.O.Outlet in
    let old = c.args.self.now in
    on_ok c.answer_without_memory.result
    (answers-same O.handed O.has_log c.args.outlet.now c.answer_without_memory.new.outlet old (record old { session = c.prepare_to_forget.new.self; out = c.prepare_to_forget.new.out }) c.answer_without_memory.new.self refl
    (λ bytes has. (c.in-Err.ensures.session_stays, c.in-Err.ensures.text_stays, refl))) c.answer_without_memory.ensures.ok

pub returns-in-Err-clause-err : goal.returns-in-Err-clause-err
returns-in-Err-clause-err g c =
    let O = g.O.Outlet in
    let old = c.args.self.now in
    err_of c.answer_without_memory.result
    (stops-same O.handed O.stopped O.has_log c.args.outlet.now c.answer_without_memory.new.outlet old (record old { session = c.prepare_to_forget.new.self; out = c.prepare_to_forget.new.out }) refl
    (λ bytes has. (c.in-Err.ensures.session_stays, c.in-Err.ensures.text_stays, refl))) c.answer_without_memory.ensures.err
