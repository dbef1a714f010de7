-- Nothing is handed over, or all.
use Rattle.tt_commands.proofs.ResultLemmas.{and_results}
use Rattle.tt_lines.proofs.RunningLemmas.{stands-handed}
use Rattle.tt_lines.proofs.run.Run.hand_over_much.Goals as goal

pub returns-clause-stands : goal.returns-clause-stands
returns-clause-stands g c =
    let done = c.hand_over.ensures in
    and_results c.hand_over.result done.ok done.out done.lines (λ over out lines first start reads stands.
    stands-handed _ _ _ _ _ start reads _ _ _ _ stands reads (over first start reads stands) out lines)
