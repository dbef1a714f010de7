-- The session is asked once its database is there.
use Rattle.std.proofs.Common.{IfOk, subst, ◌∙◌}
use Rattle.tt_commands.specs.Session.{OpenSession, counted}
use Rattle.tt_session.specs.ForgetTurns.{Prepares}
use Rattle.tt_session.proofs.recoverable_session.RecoverableSession.prepare_to_forget.Goals as goal

pub returns-clause-prepared : goal.returns-clause-prepared
returns-clause-prepared c =
    subst (λ (s : OpenSession). IfOk c.prepare_to_forget.result (Prepares (counted s) c.args.request c.args.out.now.items c.prepare_to_forget.new.out.items))
    (c.in_ok-recover.ensures.session ∙ c.self.view_is) c.prepare_to_forget.ensures.prepared
