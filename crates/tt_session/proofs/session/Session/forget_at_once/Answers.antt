-- The session is the open one.
use Rattle.std.proofs.Common.{◌≡◌, ◌++◌, OnOk, sym, ◌∙◌, subst}
use Rattle.tt_session.specs.declared.session.Session.TheVariants.{Open}
use Rattle.tt_commands.specs.Session.{OpenSession, counted}
use Rattle.tt_session.specs.ForgetTurns.{turn_of_forget}
use Rattle.tt_session.proofs.TogetherLemmas.{open-same}
use Rattle.tt_session.proofs.session.Session.forget_at_once.Goals as goal

pub returns-in-Open-clause-text : goal.returns-in-Open-clause-text
returns-in-Open-clause-text c = λ session is.
    subst (λ (s : OpenSession). OnOk c.forget_at_once.result (c.forget_at_once.new.out.items ≡ c.args.out.now.items ++ (turn_of_forget (counted s) c.args.request).text))
    (open-same c.in-Open.session session (sym c.in-Open.is ∙ is)) c.forget_at_once.ensures.text

pub returns-in-Open-clause-session : goal.returns-in-Open-clause-session
returns-in-Open-clause-session c = λ session is.
    subst (λ (s : OpenSession). OnOk c.forget_at_once.result (Open c.forget_at_once.new.session ≡ (turn_of_forget (counted s) c.args.request).session))
    (open-same c.in-Open.session session (sym c.in-Open.is ∙ is)) c.forget_at_once.ensures.session
