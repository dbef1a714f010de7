-- The call is counted before the request is answered.
use Rattle.std.proofs.Common.{subst}
use Rattle.tt_commands.specs.Session.{OpenSession}
use Rattle.tt_session.specs.ForgetTurns.{Prepares}
use Rattle.tt_session.proofs.ready_to_forget.prepare_to_forget.Goals as goal

pub returns-in-Ok-clause-prepared : goal.returns-in-Ok-clause-prepared
returns-in-Ok-clause-prepared c =
    subst (λ (s : OpenSession). Prepares s c.args.request c.args.out.now.items c.prepare_counted.new.out.items c.in-Ok.ready) c.count_call.ensures.session c.in-Ok.ensures.prepared
