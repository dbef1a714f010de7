-- The bytes after the last line feed are answered, and then all answers are handed over.
use Rattle.tt_commands.proofs.ResultLemmas.{on_ok, on_err, err_of}
use Rattle.tt_lines.proofs.EndingLemmas.{ends-none, stops-none, ends-one, stops-at-last, stops-after-last}
use Rattle.tt_lines.proofs.run.Run.end.Goals as goal

pub returns-then-is_empty-clause-ok : goal.returns-then-is_empty-clause-ok
returns-then-is_empty-clause-ok g c =
    let O = g.O.Outlet in
    on_ok c.hand_over.result (ends-none O.handed O.has_log c.args.outlet.now c.hand_over.new.outlet c.args.self.now (c.is_empty.ensures.none c.if-is_empty.true)) c.hand_over.ensures.ok

pub returns-then-is_empty-clause-err : goal.returns-then-is_empty-clause-err
returns-then-is_empty-clause-err g c =
    let O = g.O.Outlet in
    err_of c.hand_over.result (stops-none O.handed O.stopped O.has_log c.args.outlet.now c.hand_over.new.outlet c.args.self.now (c.is_empty.ensures.none c.if-is_empty.true)) c.hand_over.ensures.err

pub returns-in_err-answer_request-clause-err : goal.returns-in_err-answer_request-clause-err
returns-in_err-answer_request-clause-err g c =
    let O = g.O.Outlet in
    on_err c.from_residual.result
    (stops-at-last O.handed O.stopped O.has_log c.args.outlet.now c.answer_request.new.outlet c.args.self.now (c.is_empty.ensures.some c.if-is_empty.false) c.in_err-answer_request.ensures.err)

pub returns-clause-ok : goal.returns-clause-ok
returns-clause-ok g c =
    let O = g.O.Outlet in
    on_ok c.hand_over-2.result (λ over.
    ends-one O.handed O.has_log c.args.outlet.now c.answer_request.new.outlet c.hand_over-2.new.outlet c.args.self.now c.answer_request.new.self (c.is_empty.ensures.some c.if-is_empty.false)
    c.in_ok-answer_request.ensures.ok over) c.hand_over-2.ensures.ok

pub returns-clause-err : goal.returns-clause-err
returns-clause-err g c =
    let O = g.O.Outlet in
    err_of c.hand_over-2.result (λ stops.
    stops-after-last O.handed O.stopped O.has_log c.args.outlet.now c.answer_request.new.outlet c.hand_over-2.new.outlet c.args.self.now c.answer_request.new.self
    (c.is_empty.ensures.some c.if-is_empty.false) c.in_ok-answer_request.ensures.ok stops) c.hand_over-2.ensures.err
