-- The session is the open one.
use Rattle.std.proofs.Common.{IfOk, sym, ◌∙◌, subst}
use Rattle.tt_commands.specs.Session.{OpenSession, counted}
use Rattle.tt_session.specs.ForgetTurns.{Prepares}
use Rattle.tt_session.proofs.TogetherLemmas.{open-same}
use Rattle.tt_session.proofs.session.Session.prepare_to_forget.Goals as goal

pub returns-in-Open-clause-prepared : goal.returns-in-Open-clause-prepared
returns-in-Open-clause-prepared c = λ session is.
    subst (λ (s : OpenSession). IfOk c.prepare_to_forget.result (Prepares (counted s) c.args.request c.args.out.now.items c.prepare_to_forget.new.out.items))
    (open-same c.in-Open.session session (sym c.in-Open.is ∙ is)) c.prepare_to_forget.ensures.prepared
