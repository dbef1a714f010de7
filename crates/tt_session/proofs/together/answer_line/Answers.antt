-- A line is an opening or a request.
use Rattle.std.proofs.Common.{sym, subst, ◌∙◌}
use Rattle.tt_grammar.specs.Version.{newest_version}
use Rattle.tt_requests.specs.LineValue.{value_of_line}
use Rattle.tt_commands.specs.Session.{OpenSession}
use Rattle.tt_session.specs.declared.session.Session.TheVariants.{Open}
use Rattle.tt_session.specs.ForgetTurns.{AnswersPlain}
use Rattle.tt_session.proofs.TogetherLemmas.{opening-read, opening-plain}
use Rattle.tt_session.proofs.together.answer_line.Goals as goal

pub returns-in-Ok-clause-answered : goal.returns-in-Ok-clause-answered
returns-in-Ok-clause-answered c =
    let line = c.args.line.now in
    let is = opening-read newest_version c.args.session.now.database.catalog (value_of_line line) (sym c.in_ok-read.ensures.line ∙ c.in-Opening.is) in
    subst (λ (s : OpenSession). AnswersPlain (Open s) (Open c.reopen.new.self) line c.args.out.now.items c.reopen.new.out.items c.args.workspace.now.lines c.args.workspace.now.lines) c.in_ok-read.ensures.stays
    (opening-plain line c.read.new.self c.reopen.new.self c.args.out.now.items c.reopen.new.out.items c.args.workspace.now.lines c.requires.told is c.in-Ok.ensures.text c.in-Ok.ensures.session)
