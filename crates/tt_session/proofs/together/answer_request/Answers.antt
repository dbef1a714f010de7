-- A line is answered, or it is returned.
use Rattle.std.proofs.Common.{◌≡◌, ℕ, List, Bool, true, false, Ok, refl, sym, ap, ◌∙◌}
use Rattle.tt_requests.proofs.LineLemmas.{value_of_line-long}
use Rattle.tt_requests.specs.declared.request.Request.{Request}
use Rattle.tt_requests.specs.Lines.{is_too_long}
use Rattle.tt_requests.specs.LineValue.{value_of_line}
use Rattle.tt_requests.specs.Asked.{IsForgetRequest}
use Rattle.tt_commands.specs.Session.{OpenSession, request_in}
use Rattle.tt_session.proofs.TogetherLemmas.{line-plain}
use Rattle.tt_session.proofs.together.answer_request.Goals as goal

-- a line that asks for something isn't too long
asked-short : (session : OpenSession) (line : List ℕ) (r : Request) → request_in session (value_of_line line) ≡ Ok r → is_too_long line ≡ false
asked-short session line r asks = by (is_too_long line) refl
  where
    by : (b : Bool) → is_too_long line ≡ b → b ≡ false
    by false e = refl
    by true e = let bad = sym asks ∙ ap (request_in session) (value_of_line-long line e) in cc

pub returns-in-Some-clause-answered : goal.returns-in-Some-clause-answered
returns-in-Some-clause-answered c =
    let old = c.args.session.now in
    let line = c.args.line.now in
    let is = c.requires.asks in
    let asks : IsForgetRequest (request_in old (value_of_line line)) c.in-Some.request = (c.in-Some.ensures.0, sym is ∙ c.in-Some.ensures.1) in
    record {
      asks = record { opened = old; session_is = refl; short = asked-short old line _ asks.1; told = c.requires.told; asks = asks };
      session = refl;
      text = refl;
      lines = refl;
    }

pub returns-in_ok-answer-in-None-clause-answered : goal.returns-in_ok-answer-in-None-clause-answered
returns-in_ok-answer-in-None-clause-answered c =
    let done = c.in_ok-answer-in-None.ensures in
    line-plain c.args.asked c.args.line.now c.args.session.now c.answer.new.self c.args.out.now.items c.answer.new.out.items
    c.args.workspace.now.lines c.answer.new.workspace.lines c.requires.told c.requires.no_opening c.requires.asks c.in-None.ensures
    done.text done.session done.lines
