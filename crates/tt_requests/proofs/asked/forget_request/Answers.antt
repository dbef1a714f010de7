-- The request that the line asks is one to forget.
use Rattle.std.proofs.Common.{Ok, ap, ◌∙◌}
use Rattle.tt_requests.specs.declared.request.Command.{Command}
use Rattle.tt_requests.proofs.asked.forget_request.Goals as goal

pub returns-in-Forget : goal.returns-in-Forget
returns-in-Forget c =
    let request = c.in-Ok.request in (
      request.worker,
      c.in-Ok.is ∙ ap (λ (command : Command). Ok (record { worker = request.worker; expected = request.expected; command = command })) c.in-Forget.is,
    )
