-- A line that is passed over, one that is too long, one for which there is memory, one that asks to forget, and one for which there is no memory.
use Rattle.std.proofs.Common.{◌≡◌, false, IfSome, refl, sym, ap, subst, ◌∙◌, arith}
use Rattle.tt_lines.specs.Lines.{HasBytes}
use Rattle.tt_session.specs.Run.{calls_of, turn_of_long_line}
use Rattle.tt_session.specs.ForgetTurns.{AnswersLine, AsksToForget}
use Rattle.tt_session.proofs.AnsweringLemmas.{read-long}
use Rattle.tt_commands.proofs.ResultLemmas.{on_ok, err_of, and_results}
use Rattle.tt_lines.proofs.RunningLemmas.{one-passed, one-kept, one-short, stops-short, long-as-far, answers-same, stops-same}
use Rattle.tt_lines.proofs.run.Run.answer_request.Goals as goal

pub returns-then-is_passed_over-clause-ok : goal.returns-then-is_passed_over-clause-ok
returns-then-is_passed_over-clause-ok g c =
    one-passed _ _ _ c.args.self.now (λ bytes has. sym (c.is_passed_over.ensures bytes has) ∙ c.if-is_passed_over.true)

pub returns-then-is_too_long-clause-ok : goal.returns-then-is_too_long-clause-ok
returns-then-is_too_long-clause-ok g c =
    let old = c.args.self.now in
    let short = c.hand_over_short.ensures in
    let made = c.answer_too_long-answer in
    and_results c.hand_over_short.result short.ok short.out short.lines (λ over out lines.
    one-short _ _ _ _ old (record old { session = made.new.self }) c.hand_over_short.new.self false false (turn_of_long_line old.session) _
    (λ bytes has. read-long old.session bytes (sym (c.is_too_long.ensures bytes has) ∙ c.if-is_too_long.true)) (long-as-far old.session) made.ensures.text
    refl refl (short.session ∙ made.ensures.session) out lines over)

pub returns-then-is_too_long-clause-err : goal.returns-then-is_too_long-clause-err
returns-then-is_too_long-clause-err g c =
    let old = c.args.self.now in
    let made = c.answer_too_long-answer in
    let O = g.O.Outlet in
    err_of c.hand_over_short.result (λ stops.
    stops-short O.handed O.stopped O.has_log c.args.outlet.now c.hand_over_short.new.outlet old (record old { session = made.new.self }) false false (turn_of_long_line old.session) _
    (λ bytes has. read-long old.session bytes (sym (c.is_too_long.ensures bytes has) ∙ c.if-is_too_long.true)) (long-as-far old.session) made.ensures.text
    refl refl stops) c.hand_over_short.ensures.err

pub returns-in-Ok-None-clause-ok : goal.returns-in-Ok-None-clause-ok
returns-in-Ok-None-clause-ok g c =
    let old = c.args.self.now in
    let new = c.answer_with_memory.new.self in
    one-kept _ _ _ old new (λ bytes has.
    subst (AnswersLine old.session new.session bytes old.out.items new.out.items old.workspace.lines new.workspace.lines) c.in-Ok-None.field-0-is
    (c.in-Ok-None.ensures.answered bytes has (sym (c.is_too_long.ensures bytes has) ∙ c.if-is_too_long.false)))

-- the request is returned, and nothing is done yet
pub answer_to_forget-requires-clause-calls : goal.answer_to_forget-requires-clause-calls
answer_to_forget-requires-clause-calls g c =
    let same = subst (λ o. IfSome o (λ _. c.answer_with_memory.new.self.session ≡ c.args.self.now.session)) c.in-Ok-Some.field-0-is c.in-Ok-Some.ensures.returned in
    omega (arith, ap calls_of same, c.requires.calls)

pub answer_to_forget-requires-clause-asks : goal.answer_to_forget-requires-clause-asks
answer_to_forget-requires-clause-asks g c = λ bytes has.
    let old = c.args.self.now in
    let new = c.answer_with_memory.new.self in
    let line = subst (λ l. HasBytes l bytes) c.in-Ok-Some.ensures.line has in
    let got =
    subst (AnswersLine old.session new.session bytes old.out.items new.out.items old.workspace.lines new.workspace.lines) c.in-Ok-Some.field-0-is
    (c.in-Ok-Some.ensures.answered bytes line (sym (c.is_too_long.ensures bytes line) ∙ c.if-is_too_long.false)) in
    subst (λ s. AsksToForget s bytes c.in-Ok-Some.request) (sym got.session) got.asks

pub returns-in-Ok-Some-clause-ok : goal.returns-in-Ok-Some-clause-ok
returns-in-Ok-Some-clause-ok g c =
    let O = g.O.Outlet in
    let old = c.args.self.now in
    let new = c.answer_with_memory.new.self in
    on_ok c.answer_to_forget.result
    (answers-same O.handed O.has_log c.args.outlet.now c.answer_to_forget.new.outlet old new c.answer_to_forget.new.self c.in-Ok-Some.ensures.line (λ bytes has.
    let got =
    subst (AnswersLine old.session new.session bytes old.out.items new.out.items old.workspace.lines new.workspace.lines) c.in-Ok-Some.field-0-is
    (c.in-Ok-Some.ensures.answered bytes has (sym (c.is_too_long.ensures bytes has) ∙ c.if-is_too_long.false)) in
    (got.session, got.text, got.lines))) c.answer_to_forget.ensures.ok

pub returns-in-Ok-Some-clause-err : goal.returns-in-Ok-Some-clause-err
returns-in-Ok-Some-clause-err g c =
    let O = g.O.Outlet in
    let old = c.args.self.now in
    let new = c.answer_with_memory.new.self in
    err_of c.answer_to_forget.result
    (stops-same O.handed O.stopped O.has_log c.args.outlet.now c.answer_to_forget.new.outlet old new c.in-Ok-Some.ensures.line (λ bytes has.
    let got =
    subst (AnswersLine old.session new.session bytes old.out.items new.out.items old.workspace.lines new.workspace.lines) c.in-Ok-Some.field-0-is
    (c.in-Ok-Some.ensures.answered bytes has (sym (c.is_too_long.ensures bytes has) ∙ c.if-is_too_long.false)) in
    (got.session, got.text, got.lines))) c.answer_to_forget.ensures.err

pub returns-in-Ok-Some-clause-calls : goal.returns-in-Ok-Some-clause-calls
returns-in-Ok-Some-clause-calls g c =
    let same = subst (λ o. IfSome o (λ _. c.answer_with_memory.new.self.session ≡ c.args.self.now.session)) c.in-Ok-Some.field-0-is c.in-Ok-Some.ensures.returned in
    omega (arith, ap calls_of same, c.answer_to_forget.ensures.calls)

-- there is no memory for the line
pub answer_without_memory-requires-clause-some : goal.answer_without_memory-requires-clause-some
answer_without_memory-requires-clause-some g c = λ bytes has.
    let line = subst (λ l. HasBytes l bytes) c.in-Err.ensures.line has in
    let short = sym (c.is_too_long.ensures bytes line) ∙ c.if-is_too_long.false in
    (short, sym (c.is_passed_over.ensures bytes line) ∙ c.if-is_passed_over.false, c.in-Err.ensures.lost bytes line short)

pub returns-in-Err-clause-ok : goal.returns-in-Err-clause-ok
returns-in-Err-clause-ok g c =
    let O = g.O.Outlet in
    on_ok c.answer_without_memory.result
    (answers-same O.handed O.has_log c.args.outlet.now c.answer_without_memory.new.outlet c.args.self.now c.answer_with_memory.new.self c.answer_without_memory.new.self c.in-Err.ensures.line
    (λ bytes has. (c.in-Err.ensures.session_stays, c.in-Err.ensures.text_stays, c.in-Err.ensures.lines_stay))) c.answer_without_memory.ensures.ok

pub returns-in-Err-clause-err : goal.returns-in-Err-clause-err
returns-in-Err-clause-err g c =
    let O = g.O.Outlet in
    err_of c.answer_without_memory.result
    (stops-same O.handed O.stopped O.has_log c.args.outlet.now c.answer_without_memory.new.outlet c.args.self.now c.answer_with_memory.new.self c.in-Err.ensures.line
    (λ bytes has. (c.in-Err.ensures.session_stays, c.in-Err.ensures.text_stays, c.in-Err.ensures.lines_stay))) c.answer_without_memory.ensures.err
