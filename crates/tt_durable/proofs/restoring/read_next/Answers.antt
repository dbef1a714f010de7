-- The first line opens a log.
use Rattle.tt_durable.proofs.RestoringLemmas.{opens-next}
use Rattle.tt_durable.proofs.restoring.read_next.Goals as goal

pub returns-in-Some-opened-clause-next : goal.returns-in-Some-opened-clause-next
returns-in-Some-opened-clause-next c =
    opens-next c.args.line.now c.in_ok-opened-in-None.opened c.in-Some-opened.field-0 c.args.session.now c.args.ground_left.now c.is_some-is_open.result c.in_ok-opened-in-None.ensures c.in-Some-opened.is c.in-None.is c.is_some-is_open.ensures
