-- A line that asks to forget is returned, and then carried out.
use Rattle.std.proofs.Common.{◌≡◌, ◌++◌, sym, ap, ◌∙◌, subst}
use Rattle.tt_session.specs.Run.{Turn, turn_with_memory}
use Rattle.tt_commands.specs.Session.{counted}
use Rattle.tt_session.specs.ForgetTurns.{AnswersLine, turn_of_forget}
use Rattle.tt_session.proofs.AnsweringLemmas.{forget-turn, read-kept}
use Rattle.tt_session.proofs.session.Session.answer.Goals as goal

pub returns-in-Some-clause-text : goal.returns-in-Some-clause-text
returns-in-Some-clause-text c =
    let old = c.args.self.now in
    let line = c.args.line.now in
    let r = subst (AnswersLine old c.answer_line.new.self line c.args.out.now.items c.answer_line.new.out.items c.new-workspace.result.lines c.answer_line.new.workspace.lines) c.in-Some.is c.in_ok-request.ensures.answered in
    let turn : turn_with_memory old line ≡ turn_of_forget (counted r.asks.opened) c.in-Some.request = sym (read-kept old line) ∙ forget-turn old line c.in-Some.request r.asks in
    c.in_ok-forget_at_once-in-Some.ensures.text r.asks.opened (r.session ∙ r.asks.session_is)
    ∙ (λ j. r.text j ++ (ap (λ (t : Turn). t.text) (sym turn)) j)

pub returns-in-Some-clause-session : goal.returns-in-Some-clause-session
returns-in-Some-clause-session c =
    let old = c.args.self.now in
    let line = c.args.line.now in
    let r = subst (AnswersLine old c.answer_line.new.self line c.args.out.now.items c.answer_line.new.out.items c.new-workspace.result.lines c.answer_line.new.workspace.lines) c.in-Some.is c.in_ok-request.ensures.answered in
    let turn : turn_with_memory old line ≡ turn_of_forget (counted r.asks.opened) c.in-Some.request = sym (read-kept old line) ∙ forget-turn old line c.in-Some.request r.asks in
    c.in_ok-forget_at_once-in-Some.ensures.session r.asks.opened (r.session ∙ r.asks.session_is) ∙ ap (λ (t : Turn). t.session) (sym turn)
